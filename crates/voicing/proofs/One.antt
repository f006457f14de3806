-- Each promise over a work space allows one outcome.
use mathlib.Core.Path.{◌≡◌, sym, ◌∙◌}
use mathlib.Core.List.{List}
use Prim.Native.Nat.{ℕ}
use lib.Ieee.{Float}
use Rattle.region.specs.declared.Layout.{Layout}
use Rattle.region.specs.declared.Group.{Group}
use Rattle.voicing.specs.Space.{MarkSays, SwitchesSay, CloseSays, FillSays}
use Rattle.voicing.specs.declared.Voicing.{Voicing}

pub mark-one : (u : Voicing) (records : List Float) (ds flags : List ℕ) (x y : ℕ) (v w : List ℕ) → MarkSays u records ds flags x v → MarkSays u records ds flags y w → (x ≡ y) × (v ≡ w)
mark-one u records ds flags x y v w a b = (a.answer ∙ sym b.answer, a.marked ∙ sym b.marked)

pub switches-one : (ds on flags v w : List ℕ) → SwitchesSay ds on flags v → SwitchesSay ds on flags w → v ≡ w
switches-one ds on flags v w a b = a.switched ∙ sym b.switched

pub close_one : (size : ℕ) (records : List Float) (widths ds flags : List ℕ) (g : Layout) (c : Group) (work v w : List Float)
    → CloseSays size records widths ds flags g c work v → CloseSays size records widths ds flags g c work w → v ≡ w
close_one size records widths ds flags g c work v w a b = a.space ∙ sym b.space

pub fill_one : (none : Float) (ds flags : List ℕ) (g : Layout) (c : Group) (work out v w : List Float) → FillSays none ds flags g c work out v → FillSays none ds flags g c work out w → v ≡ w
fill_one none ds flags g c work out v w a b = a.numbers ∙ sym b.numbers
