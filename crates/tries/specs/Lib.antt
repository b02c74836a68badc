-- What the searches' contracts cite: what their answers say, the next person worth a try, and people who are judged alike.
pub mod Outcomes
pub mod Trying
pub mod Alike
pub mod Choices
