-- What the lower floors' calls leave of a group of components.
use mathlib.Core.Path.{◌≡◌, refl, sym, ap, ◌∙◌}
use mathlib.Core.Bool.{true, false}
use mathlib.Core.List.{List}
use Prim.Native.Nat.{ℕ, ◌+◌, ◌-◌, ◌*◌, ◌/◌, ◌<◌, ◌≤◌}
use native.Mathlib.Nat.{add-sub_cancel_left, mul_comm, mul_assoc, mul-le-mul, mul-le-mul_right, div-mul-le_self}
use native.Mathlib.Omega.{arith}
use lib.ListN.{length, take, drop}
use lib.Ieee.{Float}
use Rattle.lists.specs.Totals.{total}
use Rattle.lists.specs.Build.{build}
use Rattle.lists.specs.Parts.{part}
use Rattle.lists.specs.Frames.{fill, count}
use Rattle.lists.proofs.Regions.{cut-length}
use Rattle.region.specs.Region as region
use Rattle.region.specs.Region.{Region, region_in, region_of, each_region}
use Rattle.region.specs.declared.Layout.{Layout}
use Rattle.region.proofs.Laying.{size-floats}
use Rattle.region.specs.declared.Group.{Group}
use Rattle.voicing.specs.Mask.{mask_in}
use Rattle.voicing.specs.Space.{paired_in, closes, fills, filled_at, CloseSays, FillSays}
use Rattle.band.specs.Promise as band
use Rattle.band.specs.Promise.{rowed_in, RowsSay}
use Rattle.solve.specs.Promise as solve
use Rattle.solve.specs.Promise.{solved_in, SolveSays}
use Rattle.gv.specs.Promise.{VarySays}
use Rattle.mlpg_adjust.specs.Trajectory.{state_size, gv_on, with_gv}
use Rattle.mlpg_adjust.specs.Inner.Groups.{voiced_in, layout_of, Ready, Varying, target_in, column_of, Columned}
use Rattle.std.proofs.Common.{Option, None, Some, is_some}
use Rattle.mlpg_adjust.specs.declared.Stream.{Stream}
use Rattle.mlpg_adjust.specs.declared.group.Plan.{Plan}
use Rattle.mlpg_adjust.proofs.Doors.{opened, band-opens, solve_opens, closing-opens, filling-opens, gv_opens}
use Rattle.mlpg_adjust.proofs.Components.{Keeps, target, closed, rowed, done, solved-fits, solved-at, values_are}
use Rattle.mlpg_adjust.proofs.Columns.{columned_next}

-- ---- the global variance is off or on

pub on_is : (s : Option Float) → gv_on s ≡ is_some s
on_is None = refl
on_is (Some weight) = refl

pub gv_off : {A : Type 0} (s : Option Float) (f : Float → A) (x : A) → s ≡ None → x ≡ with_gv s f x
gv_off s f x e = rw e

pub without_gv : {A : Type 0} (s : Option Float) (f : Float → A) (x : A) → gv_on s ≡ false → with_gv s f x ≡ x
without_gv None f x e = refl
without_gv (Some weight) f x e = absurd (let z : ◌≡◌ {A = ℕ} 0 1 = cc in omega arith)

pub gv_on_lem : {A : Type 0} (s : Option Float) (weight : Float) (f : Float → A) (x : A) → s ≡ Some weight → f weight ≡ with_gv s f x
gv_on_lem s weight f x e = rw e

pub on-said : (s : Option Float) (weight : Float) → s ≡ Some weight → gv_on s ≡ true
on-said s weight e = rw e

-- ---- a group's equations, solved

module _ (p : Plan) (widths : List ℕ) (coefs records : List Float) (ds marks : List ℕ) (r : Ready p widths coefs records ds marks) where
  abbrev s : Stream
  s = p.stream

  abbrev g : Layout
  g = layout_of s widths records ds

  pub layout_is : p.layout ≡ g
  layout_is = ap (λ (q : Plan). q.layout) r.plan

  size_is : p.size ≡ state_size s widths
  size_is = ap (λ (q : Plan). q.size) r.plan

  frames_is : p.frames ≡ total ds
  frames_is = ap (λ (q : Plan). q.frames) r.plan

  -- as many lanes as the work space holds, and no fewer than one
  module _ (k : ℕ) (k_is : k ≡ region.floats_of p.layout) where
    small : (0 < k) × (k ≤ 48)
    small = let z : k ≡ region.floats_of g = k_is ∙ ap (λ (q : Layout). region.floats_of q) layout_is in
        (omega (arith, z), omega (arith, z, r.shaped.most-windows, r.shaped.most_width))

    pub lanes_room : (lanes work : ℕ) → lanes ≤ 48 / k → work ≡ total ds * 48 → lanes * region.size_of p.layout ≤ work
    lanes_room lanes work h o =
        let n : ℕ = p.layout.n in
        let few : n ≤ total ds = omega (arith, ap (λ (q : Layout). q.n) layout_is, r.marked.most) in
        let e : lanes * region.size_of p.layout ≡ n * (lanes * k) =
        ap (λ (j : ℕ). lanes * j) (size-floats p.layout ∙ ap (λ (j : ℕ). n * j) (sym k_is)) ∙ ap (λ (j : ℕ). lanes * j) (mul_comm n k) ∙ sym (mul_assoc lanes k n) ∙ mul_comm (lanes * k) n in
        let most : lanes * k ≤ 48 = omega (arith, mul-le-mul_right k h, div-mul-le_self 48 k) in
        rw (e, o) (mul-le-mul few most)

  module _ (c : Group) (e : c.v ≡ s.v) (h : c.first + c.lanes ≤ c.v) (work : List Float) (room : c.lanes * region.size_of p.layout ≤ length work) where
    room_is : c.lanes * region.size_of g ≤ length work
    room_is = rw layout_is at room

    pub group-solved : (work₁ work₂ work₃ : List Float) → length work₁ ≡ length work → length work₂ ≡ length work₁
        → CloseSays p.size records widths ds marks p.layout c work work₁ → RowsSay widths coefs p.layout c.lanes work₁ work₂ → SolveSays p.layout c.lanes work₂ work₃
        → work₃ ≡ each_region p.layout c.lanes (λ l. solved_in p.layout) (each_region p.layout c.lanes (λ l. rowed_in widths coefs p.layout)
        (each_region p.layout c.lanes (λ l. paired_in p.size records c.v widths (mask_in ds marks) ds (c.first + l)) work))
    group-solved work₁ work₂ work₃ a b k₁ k₂ k₃ =
        let o₁ : closes p.size records widths ds marks p.layout c (length work) ≡ true =
        rw (layout_is, size_is) (closing-opens s widths coefs records ds r.shaped marks r.marked c e h (length work) room_is) in
        let o₂ : band.opens widths coefs p.layout c.lanes (length work₁) ≡ true = rw layout_is (band-opens s widths coefs records ds r.shaped c.lanes (length work₁) (rw a room_is)) in
        let o₃ : solve.opens p.layout c.lanes (length work₂) ≡ true = rw layout_is (solve_opens s widths coefs records ds r.shaped c.lanes (length work₂) (rw (b, a) room_is)) in
        let e₁ = opened _ _ _ _ o₁ k₁.space in
        let e₂ = opened _ _ _ _ o₂ k₂.space in
        opened _ _ _ _ o₃ k₃.space ∙ rw (e₂, e₁)

    pub varying : Varying p c (length marks) (length work)
    varying =
        let n-is : p.layout.n ≡ count (voiced_in s widths records ds) = ap (λ (q : Layout). q.n) layout_is in
        record {
          some = rw layout_is (omega arith);
          few_windows = rw layout_is r.shaped.most-windows;
          few = omega (arith, n-is, r.marked.most, r.shaped.frames);
          frames = omega (arith, frames_is, r.shaped.frames);
          switches = omega (arith, n-is, frames_is, r.marked.room);
          components = h;
          most_v = rw e r.shaped.most_v;
          room = room;
        }

-- ---- the global variance of a group

module _ (p : Plan) (c : Group) (marks : List ℕ) (targets work work' : List Float) (k : Varying p c (length marks) (length work)) (both : length targets ≡ c.v + c.v) (weight : Float) where
  pub group-varied : VarySays p.layout (take (p.frames + p.layout.n - p.frames) (drop p.frames marks)) (take (c.first + c.lanes - c.first) (drop c.first targets))
      (take (c.v + c.first + c.lanes - (c.v + c.first)) (drop (c.v + c.first) targets)) weight work work'
      → work' ≡ each_region p.layout c.lanes (target_in p c marks targets weight) work
  group-varied says =
      let m-long : length (part c.first c.lanes targets) ≡ c.lanes = cut-length c.first c.lanes targets (omega (arith, both, k.components)) in
      let v-long : length (part (c.v + c.first) c.lanes targets) ≡ c.lanes = cut-length (c.v + c.first) c.lanes targets (omega (arith, both, k.components)) in
      let o-long : length (part p.frames p.layout.n marks) ≡ p.layout.n = cut-length p.frames p.layout.n marks k.switches in
      let q = rw (add-sub_cancel_left p.frames p.layout.n, add-sub_cancel_left c.first c.lanes, add-sub_cancel_left (c.v + c.first) c.lanes) at says.space in
      let room : length (part c.first c.lanes targets) * region.size_of p.layout ≤ length work = rw m-long k.room in
      opened _ _ _ _ (gv_opens p.layout (length (part p.frames p.layout.n marks)) (length (part c.first c.lanes targets)) (length (part (c.v + c.first) c.lanes targets)) (length work)
      k.some k.few_windows k.few o-long (v-long ∙ sym m-long) room) q
      ∙ rw m-long

-- ---- a group's columns

module _ (p : Plan) (widths : List ℕ) (coefs records : List Float) (ds marks : List ℕ) (targets : List Float) (r : Ready p widths coefs records ds marks)
    (c : Group) (e : c.v ≡ p.stream.v) (h : c.first + c.lanes ≤ c.v) (work : List Float) (room : c.lanes * region.size_of p.layout ≤ length work) where
  abbrev t : Stream
  t = p.stream

  abbrev y : Layout
  y = layout_of t widths records ds

  abbrev on : List ℕ
  on = part (total ds) (count (voiced_in t widths records ds)) marks

  abbrev ready : List Float
  ready = each_region y c.lanes (done t widths coefs records ds c.first c.lanes) (each_region y c.lanes (rowed t widths coefs records ds c.first c.lanes) (each_region y c.lanes (closed t widths coefs records ds c.first c.lanes) work))

  -- the regions after the four calls
  abbrev over : List Float
  over = with_gv t.gv (λ weight. each_region y c.lanes (target t widths coefs records ds on targets c.first c.lanes weight) ready) ready

  regions_are : (work₃ work₄ : List Float)
      → work₃ ≡ each_region p.layout c.lanes (λ l. solved_in p.layout) (each_region p.layout c.lanes (λ l. rowed_in widths coefs p.layout)
      (each_region p.layout c.lanes (λ l. paired_in p.size records c.v widths (mask_in ds marks) ds (c.first + l)) work))
      → work₄ ≡ with_gv t.gv (λ weight. each_region p.layout c.lanes (target_in p c marks targets weight) work₃) work₃
      → work₄ ≡ over
  regions_are work₃ work₄ a b =
      b ∙ rw (a, layout_is p widths coefs records ds marks r, ap (λ (q : Plan). q.size) r.plan, ap (λ (q : Plan). q.frames) r.plan, r.marked.flags, e)

  pub group_columned : Keeps y c.lanes (closed t widths coefs records ds c.first c.lanes) → Keeps y c.lanes (rowed t widths coefs records ds c.first c.lanes) → Keeps y c.lanes (done t widths coefs records ds c.first c.lanes)
      → ((o : List ℕ) (weight : Float) → Keeps y c.lanes (target t widths coefs records ds o targets c.first c.lanes weight))
      → (work₃ work₄ out out' : List Float)
      → work₃ ≡ each_region p.layout c.lanes (λ l. solved_in p.layout) (each_region p.layout c.lanes (λ l. rowed_in widths coefs p.layout)
      (each_region p.layout c.lanes (λ l. paired_in p.size records c.v widths (mask_in ds marks) ds (c.first + l)) work))
      → work₄ ≡ with_gv t.gv (λ weight. each_region p.layout c.lanes (target_in p c marks targets weight) work₃) work₃
      → length work₄ ≡ length work → length out ≡ total ds * c.v → FillSays t.fill ds marks p.layout c work₄ out out'
      → Columned (column_of t widths coefs records ds marks targets) c.v c.first out → Columned (column_of t widths coefs records ds marks targets) c.v (c.first + c.lanes) out'
  unfolding column_of
  group_columned k₁ k₂ k₃ k₄ work₃ work₄ out out' a b long numbers says col =
      let i : c.lanes * region.size_of y ≤ length work = rw (layout_is p widths coefs records ds marks r) at room in
      let w : work₄ ≡ over = regions_are work₃ work₄ a b in
      let o : fills ds marks p.layout c (length work₄) (length out) ≡ true =
      rw (layout_is p widths coefs records ds marks r) (filling-opens t widths coefs records ds r.shaped marks r.marked c e h (length work₄) (rw long i) (length out) numbers) in
      let q : out' ≡ build (filled_at t.fill (voiced_in t widths records ds) y c over out) (length out) =
      opened _ _ _ _ o says.numbers ∙ rw (w, layout_is p widths coefs records ds marks r, r.marked.flags) in
      rw q
      (columned_next (column_of t widths coefs records ds marks targets) t.fill (voiced_in t widths records ds) y c over out
      (λ l b. ap (fill t.fill (voiced_in t widths records ds))
      (sym (values_are t widths coefs records ds on targets c.first c.lanes (k₄ on) ready (solved-fits t widths coefs records ds c.first c.lanes k₁ k₂ k₃ work i) l b (region_in y (region_of (region.size_of y) l work)) (solved-at t widths coefs records ds c.first c.lanes k₁ k₂ k₃ work i l b))))
      col)
