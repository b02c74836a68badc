-- What the contracts of `judging` cite: what the entries of each part are judged by.
pub mod Parts
