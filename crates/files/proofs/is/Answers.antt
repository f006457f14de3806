use Rattle.std.proofs.Common.{◌≡◌, refl, sym, ap, ◌∙◌, ℕ, Bool, true, false, ◌&&◌, List, [], ◌∷◌, length, suc, eqb, cond}
use Rattle.std.proofs.Math.Dec.{eqb-zero-suc, eqb-suc-zero, eqb-suc-suc}
use Rattle.std.specs.Cmp.Lexicographic.{pointwise}
use Rattle.lists.specs.Bytes.{alike, starts_with}
use Rattle.files.specs.Words.{is_text}
use Rattle.files.proofs.is.Goals as goal

-- a first byte more
headed : (b l : Bool) (a n : ℕ) → b && (l && eqb a n) ≡ (l && eqb (cond b (suc a) 0) (suc n))
headed true l a n = rw eqb-suc-suc
headed false true a n = sym (eqb-zero-suc n)
headed false false a n = refl

compared : (word text : List ℕ) → pointwise eqb word text ≡ is_text word text
unfolding starts_with alike
compared [] [] = refl
compared [] (y ∷ ys) = rw eqb-zero-suc
compared (x ∷ xs) [] = rw eqb-suc-zero
compared (x ∷ xs) (y ∷ ys) = rw eqb-suc-suc (ap (λ (b : Bool). eqb x y && b) (compared xs ys) ∙ headed (eqb x y) (eqb (length xs) (length ys)) (alike ys xs) (length ys))

pub returns : goal.returns
returns c = c.eq.ensures ∙ compared c.args.word.now c.args.text.now
