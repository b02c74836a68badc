-- A line for each step that is ready, one after the other, the same from every position that agrees at the steps looked at.
use Rattle.std.proofs.Common.{◌≡◌, refl, sym, ◌∙◌, arith}
use Rattle.boards.proofs.Looked.{agree_same, agree_left, agree_right, ready-agree}
use Rattle.lines.proofs.Filling.{filling-start, filling-more, filling-same}
use Rattle.tries.proofs.Choosing.{lines-ready}
use Rattle.tries.proofs.choice.lines_up.Goals as goal
use Rattle.tries.proofs.choice.lines_up.Goals.{then-holds, else-holds}

pub loop-s-init : goal.loop-s-init
loop-s-init c = λ q a. filling-start _ _ _ c.none-lines.ensures

pub loop-s-preserved : goal.loop-s-preserved
loop-s-preserved c = λ q a.
    elim c.if-holds.branch [
      | then-holds w ↦
          let b = rw w.looked-is at a in
          let seen = w.joined_steps-looked.ensures in
          rw w.lines-is
          (filling-more _ _ _ _ _ _ (c.loop-s.invariant q (agree_left _ _ seen b)) (omega arith)
          (sym c.holds.ensures ∙ w.if-holds.true) (w.line_of-made.ensures q (agree_right _ _ seen b)) refl)
      | else-holds w ↦ rw w.lines-is (filling-same _ _ _ _ (c.loop-s.invariant q (rw w.looked-is at a)) (omega arith) (sym c.holds.ensures ∙ w.if-holds.false))
    ]

pub returns : goal.returns
returns c =
    let whole : c.loop-s.s ≡ 8 = omega (arith, (c.loop-s.invariant _ (agree_same _ _)).known) in
    record {
      lines = λ q a. let f = rw whole at (c.loop-s.invariant q a) in lines-ready _ _ q _ _ f.lines (c.ready-ready.ensures ∙ sym (ready-agree _ a));
      few = let f = rw whole at (c.loop-s.invariant _ (agree_same _ _)) in f.few;
    }
