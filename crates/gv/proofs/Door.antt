-- The call's door, and what lies behind it.
use mathlib.Core.Path.{◌≡◌, ◌∙◌}
use mathlib.Core.Bool.{Bool, true, not}
use mathlib.Core.List.{List, map}
use Prim.Native.Nat.{ℕ, ◌*◌, ◌<◌, ◌≤◌, ◌^◌}
use borrow.Author.Tests.{ltb-true, leb-true, eqb-true, not-true}
use lib.ListN.{length}
use lib.Ieee.{Float, binary64, mul}
use Rattle.lists.specs.Flags.{is_on}
use Rattle.region.specs.Rows.{elem}
use Rattle.region.specs.Region.{Region, size_of, places_of, region_in, region_of}
use Rattle.region.specs.Inner.Passes.{Across}
use Rattle.region.specs.declared.Layout.{Layout}
use Rattle.region.specs.declared.Places.{Places}
use Rattle.region.proofs.Laying.{laid}
use Rattle.region.proofs.Across.{across_as}
use Rattle.region.proofs.Flats.{lists_are}
use Rattle.gv.specs.Promise.{opens, varied_in, VarySays}
use Rattle.gv.specs.Inner.Turns.{Planned, Suited, lists_in, parmgen_in}
use Rattle.lists.proofs.Flags.{both}
use Rattle.gv.specs.declared.MlpgGlobalVariance.{MlpgGlobalVariance}
use Rattle.gv.proofs.Varied.{varied_is}

module _ (g : Layout) (on means varis floats : ℕ) where
  pub record Opened : Type 0 where
    pub some : 0 < g.w
    pub sets : g.windows ≤ 4
    pub few : g.n ≤ 65536
    pub switches : on ≡ g.n
    pub pairs : varis ≡ means
    pub room : means * size_of g ≤ floats

  pub opened : opens g on means varis floats ≡ true → Opened
  opened e =
      let f = both _ _ e in
      let v = both _ _ f.0 in
      let s = both _ _ v.0 in
      let n = both _ _ s.0 in
      let w = both _ _ n.0 in
      record {
        some = ltb-true 0 g.w w.0;
        sets = leb-true g.windows 4 w.1;
        few = leb-true g.n 65536 n.1;
        switches = eqb-true on g.n s.1;
        pairs = eqb-true varis means v.1;
        room = leb-true (means * size_of g) floats f.1;
      }

  -- a layout's own sizes suit its regions
  pub suited : (s : MlpgGlobalVariance) (bs : List Bool) → Opened → g.w < 2 ^ 32 → Planned g bs s → Suited s (places_of g) (size_of g)
  suited s bs o b k = rw (k.length, k.width, k.windows) (record { some = o.some; narrow = b; few = o.few; sets = o.sets; spaced = laid g })

-- ---- the call

module _ (g : Layout) (on : List ℕ) (means varis : List Float) (weight : Float) (work : List Float) where
  pub none-varied : (b : Bool) → b ≡ opens g (length on) (length means) (length varis) (length work) → not b ≡ true → VarySays g on means varis weight work work
  none-varied b e h = record { space = rw (← e, not-true b h) }

  pub all-varied : (work' : List Float) (s : MlpgGlobalVariance) (p : Places) → opens g (length on) (length means) (length varis) (length work) ≡ true → Planned g (map is_on on) s → p ≡ places_of g
      → Across (λ l b e. lists_in s p e ≡ parmgen_in s (map is_on on) (mul binary64 (elem means l) weight) (elem varis l) (lists_in s p b)) p.size (length means) work work' → VarySays g on means varis weight work work'
  all-varied work' s p o k e q =
      let aim : ℕ → Region → Region = λ l. varied_in g (map is_on on) (mul binary64 (elem means l) weight) (elem varis l) in
      let q' : Across (λ l b e. region_in g e ≡ aim l (region_in g b)) (size_of g) (length means) work work' =
      across_as (rw (e, k.windows, k.length, k.width) at q) (λ l h x. x ∙ varied_is g (map is_on on) (mul binary64 (elem means l) weight) (elem varis l) (region_in g (region_of (size_of g) l work))) in
      record { space = rw o (lists_are g (length means) aim work (opened g (length on) (length means) (length varis) (length work) o).room work' q') }
