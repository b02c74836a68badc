-- The lines of answers, from the puts that make them.
use mathlib.Core.Path.{◌≡◌, sym, ap, ◌∙◌}
use mathlib.Core.List.{List, [], ◌∷◌, ◌++◌, append_assoc}
use Prim.Native.Nat.{ℕ}
use Rattle.telling.specs.declared.text.Text.{Text}
use Rattle.telling.specs.Lines.{spaced, line}
use Rattle.telling.specs.Held.{put}
use Rattle.telling.proofs.Growing.{then-put, put_same}
use Rattle.telling.proofs.Lists.{spaced-append}

module _ (t a b r : Text) (name w : List ℕ) (words : List (List ℕ)) (named : a ≡ put t name) (said : b ≡ put a (32 ∷ w)) where
  -- the question's name, what is said of it, and the end of the line
  pub answer-line : (ws : List (List ℕ)) → words ≡ w ∷ ws → r ≡ put b (spaced ws ++ (10 ∷ [])) → r ≡ put t (line name words)
  unfolding spaced line
  answer-line ws e f =
      put_same t r ((name ++ (32 ∷ w)) ++ (spaced ws ++ (10 ∷ []))) (line name words)
      (then-put t b r (name ++ (32 ∷ w)) (then-put t a b name named (32 ∷ w) said) (spaced ws ++ (10 ∷ [])) f)
      (append_assoc name (32 ∷ w) (spaced ws ++ (10 ∷ []))
      ∙ ap (λ (l : List ℕ). name ++ (32 ∷ l)) (sym (append_assoc w (spaced ws) (10 ∷ [])))
      ∙ ap (line name) (sym e))

  -- the same, with a list between
  pub shown-line : (d : Text) (shown ws : List (List ℕ)) → words ≡ w ∷ (shown ++ ws) → d ≡ put b (spaced shown)
      → r ≡ put d (spaced ws ++ (10 ∷ [])) → r ≡ put t (line name words)
  shown-line d shown ws e g f =
      answer-line (shown ++ ws) e
      (put_same b r (spaced shown ++ (spaced ws ++ (10 ∷ []))) (spaced (shown ++ ws) ++ (10 ∷ []))
      (then-put b d r (spaced shown) g (spaced ws ++ (10 ∷ [])) f)
      (sym (append_assoc (spaced shown) (spaced ws) (10 ∷ [])) ∙ ap (λ (l : List ℕ). l ++ (10 ∷ [])) (sym (spaced-append shown ws))))
