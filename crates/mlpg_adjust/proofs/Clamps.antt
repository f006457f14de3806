-- Laws of how many pairs are clamped: a state's pairs count once for each of its frames where it is voiced, and all are few enough for 32 bits.
use mathlib.Core.Path.{◌≡◌, sym, ap, ◌∙◌}
use mathlib.Core.Bool.{Bool, true, false, cond, not}
use mathlib.Core.Logic.{⊎_elim}
use mathlib.Core.List.{List, map}
use Prim.Native.Nat.{ℕ, ◌+◌, ◌*◌, ◌/◌, ◌<◌, ◌≤◌}
use native.Mathlib.Omega.{arith}
use borrow.Author.Tests.{not-true, not-false}
use lib.ListN.{length, take, drop, get_or, length-map, length-take, get_or-map, get_or-eq_default}
use lib.Ieee.{Float}
use Rattle.lists.specs.Totals.{total}
use Rattle.lists.specs.Build.{build}
use Rattle.lists.proofs.Numbers.{le_or_lt}
use Rattle.lists.proofs.Fills.{build-length}
use Rattle.lists.proofs.Builds.{build-at, build-same}
use Rattle.lists.proofs.Chosen.{at_any}
use Rattle.lists.proofs.Shares.{share, share-total, share-next, share-none, share-most}
use Rattle.model.specs.declared.mean_vari.Clamp.{Clamp}
use Rattle.model.specs.declared.voice.model.Clamps.{Clamps}
use Rattle.model.specs.declared.voice.model.Weight.TheVariants.{Absent}
use Rattle.model.specs.Weight.{voiced_at}
use Rattle.model.specs.Record.{from_linear}
use Rattle.model.specs.Clamps.{variances_of, clamped_in, clamps_in}
use Rattle.model.proofs.Records.{varis-length}
use Rattle.model.proofs.Clamps.{clamped-most, variances_are}
use Rattle.voicing.specs.Mask.{weight_at, weights_of}
use Rattle.voicing.proofs.Theory.{weights-length, weights-at}
use Rattle.mlpg_adjust.specs.Inner.Clamps.{clamped_at, clamped_by_states, state_clamps}

-- ---- a state's part

module _ (threshold : Float) (frames : ℕ) (lin : List Float) (b : Bool) (e : b ≡ voiced_at threshold (from_linear lin).msd) where
  pub state-none : not b ≡ true → record { high = 0; low = 0 } ≡ state_clamps threshold frames (from_linear lin)
  state-none h = rw (← e, not-true b h)

  pub state-some : not b ≡ false → (c : Clamps) → c ≡ clamps_in (variances_of (from_linear lin)) → record { high = frames * c.high; low = frames * c.low } ≡ state_clamps threshold frames (from_linear lin)
  state-some h c q = rw (← e, not-false b h, q)

-- no more than 256 pairs of it are clamped
pub state-few : (so : Clamp → Bool) (lin : List Float) → length lin ≤ 513 → clamped_in so (variances_of (from_linear lin)) ≤ 256
state-few so lin h =
    let v : length (variances_of (from_linear lin)) ≡ length lin / 2 = ap length (variances_are lin) ∙ varis-length lin in
    omega (arith, clamped-most so (variances_of (from_linear lin)), v)

module _ (so : Clamp → Bool) (size : ℕ) (records : List Float) (threshold : Float) (ds : List ℕ) where
  -- which states are voiced, and how many pairs of each are clamped
  abbrev pub voiced : List Bool
  voiced = map (voiced_at threshold) (weights_of size records (length ds))

  abbrev each : List ℕ
  each = build (clamped_at so size records) (length ds)

  pub voiced-long : length voiced ≡ length ds
  voiced-long = length-map (weights_of size records (length ds)) (voiced_at threshold) ∙ weights-length size records (length ds)

  each_long : length each ≡ length ds
  each_long = build-length (clamped_at so size records) (length ds)

  voiced-at : (s : ℕ) → s < length ds → get_or voiced s false ≡ voiced_at threshold (weight_at size records s)
  voiced-at s h =
      at_any voiced s false (voiced_at threshold Absent) (omega (arith, voiced-long))
      ∙ get_or-map (voiced_at threshold) (weights_of size records (length ds)) s Absent
      ∙ ap (voiced_at threshold) (weights-at size records (length ds) s h)

  -- ---- the counts of all states are a share of theirs

  each_at : (s : ℕ) → s < length ds → get_or each s 0 ≡ clamped_at so size records s
  each_at s h = build-at (clamped_at so size records) (length ds) s 0 h

  pub states-share : clamped_by_states so size records threshold ds ≡ share ds voiced each
  unfolding clamped_by_states
  states-share = ap total (build-same _ _ (length ds) (λ s h. rw (voiced-at s h, each_at s h))) ∙ sym (share-total ds voiced each voiced-long each_long)

  -- a loop has come to state s, and counted n pairs of those before it
  abbrev pub Reached : ℕ → ℕ → Type 0
  Reached s n = n + share (drop s ds) (drop s voiced) (drop s each) ≡ clamped_by_states so size records threshold ds

  pub reached-none : Reached 0 0
  reached-none = omega (arith, states-share)

  module _ (s n : ℕ) (k : Reached s n) where
    pub reached-next : (d m : ℕ) → s < length ds → d ≡ get_or ds s 0 → m ≡ cond (voiced_at threshold (weight_at size records s)) (d * clamped_at so size records s) 0 → Reached (s + 1) (n + m)
    reached-next d m h e q =
        let b = voiced-at s h in
        let c = each_at s h in
        let here : m ≡ cond (get_or voiced s false) (get_or ds s 0 * get_or each s 0) 0 = q ∙ rw (b, c, e) in
        omega (arith, k, here, share-next ds voiced each s h voiced-long each_long)

    pub reached-all : length ds ≤ s → n ≡ clamped_by_states so size records threshold ds
    reached-all h = omega (arith, k, share-none ds voiced each s h)

  -- ---- and are at most 256 a frame

  module _ (small : size ≤ 513) where
    clamped-few : (s : ℕ) → clamped_at so size records s ≤ 256
    clamped-few s = state-few so (take size (drop (s * size) records)) (omega (arith, length-take size (drop (s * size) records)))

    each-few : (i : ℕ) → get_or each i 0 ≤ 256
    each-few i =
        ⊎_elim (λ (h : length ds ≤ i). let z : get_or each i 0 ≡ 0 = get_or-eq_default each 0 (omega (arith, each_long)) in omega (arith, z))
        (λ (h : i < length ds). omega (arith, each_at i h, clamped-few i)) (le_or_lt (length ds) i)

    module _ (frames : total ds ≤ 65536) where
      pub clamped-fits : clamped_by_states so size records threshold ds ≤ 16777216
      clamped-fits = omega (arith, states-share, share-most 256 ds voiced each voiced-long each_long each-few)

      pub reached-fits : (s n : ℕ) → Reached s n → n ≤ 16777216
      reached-fits s n k = omega (arith, k, clamped-fits)
