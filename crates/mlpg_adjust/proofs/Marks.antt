-- The marks of a stream's frames: the flags in front, and the voiced frames' switches behind them.
use mathlib.Core.Path.{◌≡◌, refl, sym, ap, ◌∙◌}
use mathlib.Core.Bool.{Bool, true}
use mathlib.Core.List.{List, [], ◌++◌, map}
use Prim.Native.Nat.{ℕ, ◌+◌, ◌*◌, ◌≤◌}
use native.Mathlib.Nat.{le_of_eq}
use native.Mathlib.Omega.{arith}
use borrow.Author.Tests.{le-leb, eq-eqb}
use lib.ListN.{length, take, drop, length-append, length-map, length-drop, take-append-drop}
use lib.Seq.{sets, length-sets, take_at}
use lib.Ieee.{Float}
use Rattle.lists.specs.Totals.{total}
use Rattle.lists.specs.Parts.{part}
use Rattle.lists.specs.Flags.{flag}
use Rattle.lists.specs.Frames.{expand, select, count}
use Rattle.lists.proofs.Counts.{select-length}
use Rattle.lists.proofs.Regions.{stored-behind, stored-whole}
use Rattle.lists.proofs.Expansions.{expand-length}
use Rattle.model.specs.Windows.{band_width}
use Rattle.voicing.specs.Mask.{mask_in}
use Rattle.voicing.specs.Space.{marks, switches, MarkSays, SwitchesSay}
use Rattle.voicing.specs.declared.Voicing.{Voicing}
use Rattle.voicing.proofs.Theory.{stream-length}
use Rattle.voicing.proofs.Masks.{mask-voiced, stream-flagged}
use Rattle.mlpg_adjust.specs.Trajectory.{state_size, gv_on, with_gv, numbers_of}
use Rattle.mlpg_adjust.specs.Inner.Groups.{Shaped, Marked, Ready, voiced_in, plan_of, column_of, Columned}
use Rattle.std.proofs.Common.{Option, None, Some}
use Rattle.mlpg_adjust.specs.declared.Stream.{Stream}
use Rattle.mlpg_adjust.specs.declared.group.Plan.{Plan}
use Rattle.mlpg_adjust.proofs.Doors.{opened, frames-flagged}
use Rattle.mlpg_adjust.proofs.Columns.{rendered}

-- a mask has as many frames as the durations say
pub mask-long : (s : Stream) (widths : List ℕ) (records : List Float) (ds : List ℕ) → length (voiced_in s widths records ds) ≡ total ds
mask-long s widths records ds = stream-length (state_size s widths) records s.threshold ds

-- ---- the flags

module _ (s : Stream) (widths : List ℕ) (coefs records : List Float) (ds : List ℕ) (k : Shaped s widths coefs records ds) where
  abbrev mask : List Bool
  mask = voiced_in s widths records ds

  -- any marks that begin with the flags
  pub flags-said : (rest : List ℕ) → mask_in ds (map flag mask ++ rest) ≡ mask
  flags-said rest = stream-flagged (state_size s widths) records s.threshold ds rest

  pub voiced-most : count mask ≤ total ds
  voiced-most = rw (flags-said []) at (mask-voiced ds (map flag mask ++ []))

  flags_long : length (map flag mask) ≡ total ds
  flags_long = length-map mask flag ∙ mask-long s widths records ds

  module _ (u : Voicing) (size_is : u.size ≡ state_size s widths) (threshold-is : u.threshold ≡ s.threshold) (n : ℕ) (flags flags' : List ℕ) (room : total ds ≤ length flags) (says : MarkSays u records ds flags n flags') where
    opens : marks u records ds (length flags) ≡ true
    opens = rw (frames-flagged s widths coefs records ds k (length flags) room, size_is, le-leb (length ds * state_size s widths) (length records) (le_of_eq (sym k.recorded)))

    pub counted : n ≡ count mask
    counted = says.answer ∙ rw (opens, size_is, threshold-is)

    pub few : n ≤ 65536
    few = omega (arith, counted, voiced-most, k.frames)

    pub flagged_so : flags' ≡ map flag mask ++ drop (total ds) flags
    flagged_so = says.marked ∙ rw (opens, size_is, threshold-is)

    pub planned : (windows w frames : ℕ) → windows ≡ length widths → w ≡ band_width widths → frames ≡ total ds
        → ◌≡◌ {A = Plan} (record { stream = s; layout = record { windows = windows; n = n; w = w }; size = u.size; frames = frames }) (plan_of s widths records ds)
    planned windows w frames a b c = rw (a, b, c, counted, size_is)

  -- ---- the switches behind them

  module _ (on flags : List ℕ) (long : length flags ≡ total ds * 4) where
    abbrev marks₁ : List ℕ
    marks₁ = map flag mask ++ drop (total ds) flags

    abbrev marks₂ : List ℕ
    marks₂ = with_gv s.gv (λ weight. sets marks₁ (total ds) (select (mask_in ds marks₁) (expand ds on))) marks₁

    long₁ : length marks₁ ≡ total ds * 4
    long₁ = simp (length-append, length-drop) (omega (arith, flags_long))

    pub switches-room : total ds + count (mask_in ds marks₁) ≤ length marks₁
    switches-room = rw (flags-said (drop (total ds) flags)) (omega (arith, voiced-most, long₁))

    front_kept : (x : List ℕ) → mask_in ds (sets marks₁ (total ds) x) ≡ mask
    front_kept x =
        let m : List ℕ = sets marks₁ (total ds) x in
        let front : take (total ds) m ≡ map flag mask = stored-behind x marks₁ 0 (total ds) (total ds) (omega arith) ∙ take_at (map flag mask) (drop (total ds) flags) (total ds) flags_long in
        ap (mask_in ds) (sym (take-append-drop (total ds) m) ∙ ap (λ (l : List ℕ). l ++ drop (total ds) m) front) ∙ flags-said (drop (total ds) m)

    -- whether the switches are there or not
    marked_by : (switch : Option Float) → Marked s widths records ds (with_gv switch (λ weight. sets marks₁ (total ds) (select (mask_in ds marks₁) (expand ds on))) marks₁)
    marked_by None = record { flags = flags-said (drop (total ds) flags); most = voiced-most; room = omega (arith, voiced-most, long₁) }
    marked_by (Some weight) = record { flags = front_kept (select (mask_in ds marks₁) (expand ds on)); most = voiced-most; room = rw (length-sets marks₁ (total ds) (select (mask_in ds marks₁) (expand ds on))) (omega (arith, voiced-most, long₁)) }

    pub marked : Marked s widths records ds marks₂
    marked = marked_by s.gv

    switches_by : (switch : Option Float) → (gv_on switch ≡ true → length on ≡ length ds)
        → gv_on switch ≡ true → part (total ds) (count mask) (with_gv switch (λ weight. sets marks₁ (total ds) (select (mask_in ds marks₁) (expand ds on))) marks₁) ≡ select mask (expand ds on)
    switches_by None h e = let z : ◌≡◌ {A = ℕ} 0 1 = cc in absurd (omega arith)
    switches_by (Some weight) h e =
        let so : select (mask_in ds marks₁) (expand ds on) ≡ select mask (expand ds on) = rw (flags-said (drop (total ds) flags)) in
        let x-long : length (select mask (expand ds on)) ≡ count mask = select-length mask (expand ds on) (expand-length ds on (h e) ∙ sym (mask-long s widths records ds)) in
        rw so (stored-whole (select mask (expand ds on)) marks₁ (total ds) (count mask) x-long (omega (arith, voiced-most, long₁)))

    pub switches_are : (gv_on s.gv ≡ true → length on ≡ length ds) → gv_on s.gv ≡ true → part (total ds) (count mask) marks₂ ≡ select mask (expand ds on)
    switches_are = switches_by s.gv

    -- what is asked for each group
    module _ (p : Plan) (p-is : p ≡ plan_of s widths records ds) (m₁ m₂ : List ℕ) (e₁ : m₁ ≡ marks₁) (e₂ : m₂ ≡ with_gv s.gv (λ weight. sets m₁ (total ds) (select (mask_in ds m₁) (expand ds on))) m₁) where
      marks_are : m₂ ≡ marks₂
      marks_are = e₂ ∙ rw e₁

      pub room-before : total ds + count (mask_in ds m₁) ≤ length m₁
      room-before = rw e₁ switches-room

      pub ready : Ready p widths coefs records ds m₂
      ready = rw (marks_are, p-is) (record { plan = refl; shaped = k; marked = marked })

      pub all-rendered : (gv_on s.gv ≡ true → length on ≡ length ds) → (gv out : List Float) → length out ≡ total ds * s.v
          → Columned (column_of p.stream widths coefs records ds m₂ gv) p.stream.v p.stream.v out → out ≡ numbers_of s widths coefs records ds gv on
      all-rendered h gv out l col = rendered s widths coefs records ds gv on marks₂ (switches_are h) out k.some_v l (rw (marks_are, p-is) at col)

-- ---- the call that writes the switches

pub switches-written : (ds on flags flags' : List ℕ) → length ds ≤ 4096 → total ds ≤ 65536 → length on ≡ length ds → total ds + count (mask_in ds flags) ≤ length flags → SwitchesSay ds on flags flags'
    → flags' ≡ sets flags (total ds) (select (mask_in ds flags) (expand ds on))
switches-written ds on flags flags' a b e h says =
    let q : total ds ≤ length flags = omega arith in
    let o : switches ds (length on) flags ≡ true =
    rw (le-leb (length ds) 4096 a, le-leb (total ds) 65536 b, le-leb (total ds) (length flags) q, eq-eqb (length on) (length ds) e, le-leb (total ds + count (mask_in ds flags)) (length flags) h) in
    opened _ _ _ _ o says.switched
