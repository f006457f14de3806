-- Closing up the pairs of several components side by side: what the loop over states does at each turn.
use mathlib.Core.Path.{◌≡◌, refl, sym, ap, ◌∙◌}
use mathlib.Core.Bool.{Bool, true, false}
use mathlib.Core.List.{List, [], ◌++◌, append_assoc, append-nil, map}
use Prim.Native.Nat.{ℕ, ◌+◌, ◌-◌, ◌*◌, ◌<◌, ◌≤◌}
use native.Mathlib.Nat.{zero-add, add-zero, add-mul, mul_comm}
use native.Mathlib.Omega.{arith}
use lib.ListN.{length, take, drop, get_or}
use lib.Ieee.{Float, nan}
use Rattle.lists.specs.Totals.{total}
use Rattle.lists.specs.Build.{rows}
use Rattle.lists.specs.Frames.{expand, select, count}
use Rattle.lists.specs.Parts.{part}
use Rattle.lists.proofs.Counts.{count-all, count_none}
use Rattle.lists.proofs.Expansions.{expand-length}
use Rattle.lists.proofs.Joins.{part-joined, part-last}
use Rattle.lists.proofs.Rows.{row_fits}
use Rattle.model.specs.Pair.{ivar_of}
use Rattle.model.specs.Record.{pair_number}
use Rattle.region.specs.Region.{ivars_at, rows_at, right_at, factors_at, values_at, size_of, region_in, flat, region_of, each_region}
use Rattle.region.specs.declared.Layout.{Layout}
use Rattle.region.specs.declared.Group.{Group}
use Rattle.region.specs.Inner.Passes.{Across}
use Rattle.region.proofs.Lanes.{region-long}
use Rattle.region.proofs.Across.{across-none, across-then, across_as}
use Rattle.region.proofs.Flats.{across_is}
use Rattle.voicing.specs.Mask.{mask_in, column}
use Rattle.voicing.specs.Boundaries.{ahead, lefts, rights, shut_all}
use Rattle.voicing.specs.Windows.{reach_before, reach_after, means_in, ivars_in}
use Rattle.voicing.specs.Space.{paired_in}
use Rattle.voicing.specs.Inner.Fits.{goes_on, Paired}
use Rattle.voicing.specs.Inner.States.{plan_of, put_pairs, StateFits}
use Rattle.voicing.specs.declared.closing.Plan.{Plan}
use Rattle.voicing.specs.declared.closing.Span.{Span}
use Rattle.voicing.proofs.Theory.{lefts-length, rights-length}
use Rattle.voicing.proofs.Masks.{mask-long, mask_end, Run, goes_some}
use Rattle.voicing.proofs.Passes.{Passed, passed_none, passed-all, passed-fits, passed-run, passed-room, passed-next}
use Rattle.voicing.proofs.Records.{column-length, column-at, inverses-length, inverses-at}
use Rattle.voicing.proofs.Selections.{expand-run, select-next, run_items}
use Rattle.voicing.proofs.Runs.{InRun, in_none, in_voiced, in_unvoiced, ahead-on, shut-length, ends-state}
use Rattle.voicing.proofs.States.{parts-rows, means, inverses, put-means, put-ivars, put-behind}

-- what the states' pairs need of a plan
pub record Planned (size records : ℕ) (widths ds flags : List ℕ) (p : Plan) (first floats : ℕ) : Type 0 where
  pub voiced : count (mask_in ds flags) ≡ p.n
  pub most_v : p.v ≤ 64
  pub some : first + p.lanes ≤ p.v
  pub half_at : p.half ≡ p.v * length widths
  pub pairs : p.half + p.half ≤ size
  pub recorded : length ds * size ≤ records
  pub ivars-at : p.ivars ≡ length widths * p.n
  pub ivars_end : p.ivars + p.ivars ≤ p.size
  pub room : p.lanes * p.size ≤ floats

pub planned : {size records floats : ℕ} {widths ds flags : List ℕ} {g : Layout} {c : Group} {p : Plan} → Paired size records (length widths) ds flags g c floats → p ≡ plan_of (length widths) g c
    → Planned size records widths ds flags p c.first floats
planned {widths = widths} {g = g} {c = c} f e = rw e (record {
  voiced = f.lies.voiced;
  most_v = f.lies.most_v;
  some = f.lies.some;
  half_at = refl;
  pairs = omega (arith, f.pairs, mul_comm c.v (length widths), add-mul (length widths) (length widths) c.v);
  recorded = f.recorded;
  ivars-at = ap (λ (n : ℕ). n * g.n) (sym f.windows);
  ivars_end = omega arith;
  room = f.lies.room;
})

module _ (size : ℕ) (records : List Float) (widths ds flags : List ℕ) (p : Plan) (first : ℕ) where
  -- the means of component first + l and window i at all frames
  abbrev means_all : ℕ → ℕ → List Float
  means_all l i = expand ds (column size records (pair_number p.v i (first + l)) (length ds))

  -- its inverse variances, before those near the ends of a run are set to 0, and after
  abbrev ivars_by_state : ℕ → ℕ → List Float
  ivars_by_state l i = map ivar_of (column size records (p.v * length widths + pair_number p.v i (first + l)) (length ds))

  abbrev ivars_all : ℕ → ℕ → List Float
  ivars_all l i = shut_all (reach_before widths i) (reach_after widths i) (lefts 0 (mask_in ds flags)) (rights (mask_in ds flags)) (expand ds (ivars_by_state l i))

  means_long : (l i : ℕ) → length (means_all l i) ≡ total ds
  means_long l i = expand-length ds _ (column-length size records (pair_number p.v i (first + l)) (length ds))

  by_state_long : (l i : ℕ) → length (expand ds (ivars_by_state l i)) ≡ total ds
  by_state_long l i = expand-length ds _ (inverses-length size records (p.v * length widths + pair_number p.v i (first + l)) (length ds))

  ivars_long : (l i : ℕ) → length (ivars_all l i) ≡ total ds
  ivars_long l i =
      let n : length (lefts 0 (mask_in ds flags)) ≡ total ds = lefts-length 0 (mask_in ds flags) ∙ mask-long ds flags in
      shut-length (reach_before widths i) (reach_after widths i) _ _ _ (rights-length (mask_in ds flags) ∙ mask-long ds flags ∙ sym n) (by_state_long l i ∙ sym n) ∙ n

  -- what is done, with what is to come from frame f on, is the whole
  abbrev ClosedUp : ℕ → List Float → List Float → Type 0
  ClosedUp f ys done = done ++ select (drop f (mask_in ds flags)) (drop f ys) ≡ select (mask_in ds flags) ys

  -- component l's pairs of the first f frames stand at the k voiced ones, and what lies behind the pairs is as it was
  pub record Gathered (f k l : ℕ) (old new : List Float) : Type 0 where
    pub means_done : (i : ℕ) → i < length widths → ClosedUp f (means_all l i) (part (i * p.n) k new)
    pub ivars_done : (i : ℕ) → i < length widths → ClosedUp f (ivars_all l i) (part (p.ivars + i * p.n) k new)
    pub behind : drop (p.ivars + p.ivars) new ≡ drop (p.ivars + p.ivars) old

  pub record Gathering (old work : List Float) (s f k begin end : ℕ) : Type 0 where
    pub passed : Passed ds flags s f k
    pub run : InRun (mask_in ds flags) f begin end
    pub regions : Across (Gathered f k) p.size p.lanes old work

  pub gathering : (old : List Float) → Gathering old old 0 0 0 0 0
  gathering old = record {
    passed = passed_none;
    run = in_none;
    regions = across-none (λ l h. record { means_done = λ i t. refl; ivars_done = λ i t. refl; behind = refl });
  }

  module _ {old work : List Float} {s f k begin end : ℕ} (a : Gathering old work s f k begin end) (t : s < length ds) {d : ℕ} (o : d ≡ get_or ds s 0) where
    within : {A : Type 0} (ys : List A) → length ys ≡ total ds → f + d ≤ length ys
    within ys e = omega (arith, passed-fits a.passed t o)

    -- an unvoiced state
    pub gathering_unvoiced : false ≡ goes_on flags f d → Gathering old work (s + 1) (f + d) k (f + d) end
    gathering_unvoiced g =
        let r = passed-run a.passed t o g in
        let z = sym (count_none d) in
        let next : (ys : List Float) → length ys ≡ total ds → select (drop (f + d) (mask_in ds flags)) (drop (f + d) ys) ≡ select (drop f (mask_in ds flags)) (drop f ys) =
        λ ys e. sym (select-next (mask_in ds flags) ys f d 0 false r (within ys e) z) in
        record {
          passed = rw add-zero at (passed-next a.passed t o g z);
          run = in_unvoiced a.run d r (goes_some flags f d g);
          regions = across_as a.regions (λ l h q. record {
            means_done = λ i j. rw (next (means_all l i) (means_long l i)) (q.means_done i j);
            ivars_done = λ i j. rw (next (ivars_all l i) (ivars_long l i)) (q.ivars_done i j);
            behind = q.behind;
          });
        }

    -- a voiced one, whose run ends at `last`
    module _ (fit : Planned size (length records) widths ds flags p first (length old)) (g : true ≡ goes_on flags f d) {last : ℕ} (e : last ≡ ahead (drop f (mask_in ds flags)) + f) where
      onto : Run (mask_in ds flags) f d true
      onto = passed-run a.passed t o g

      ends : last ≡ ahead (drop (f + d) (mask_in ds flags)) + (f + d)
      ends = omega (arith, e, ap ahead onto, ahead-on d (drop (f + d) (mask_in ds flags)))

      pub gathering-ends : f + d ≤ last
      gathering-ends = omega (arith, ends)

      abbrev span : Span
      span = record { d = d; k = k; left = f - begin; right = last - (f + d) }

      pub gathering-state : StateFits p (length widths) (length records) (length work) (s * size + first) span
      gathering-state = record {
        most_v = fit.most_v;
        half_at = fit.half_at;
        read = omega (arith, fit.recorded, fit.pairs, fit.some, row_fits size s (length ds) t);
        voiced = omega (arith, fit.voiced, passed-room a.passed t o g (sym (count-all d)));
        ivars-at = fit.ivars-at;
        ivars_end = fit.ivars_end;
        room = omega (arith, fit.room, a.regions.long);
      }

      -- the state's numbers are its frames'
      means-run : (l i : ℕ) → means records p (s * size + first) widths span l i ≡ take d (drop f (means_all l i))
      means-run l i =
          let q : s * size + first + i * p.v + l ≡ s * size + (p.v * i + (first + l)) = omega (arith, mul_comm p.v i) in
          rw q (run_items (means_all l i) f d d _ true
          (expand-run ds _ s f d _ nan (column-length size records (pair_number p.v i (first + l)) (length ds)) t a.passed.frames o (sym (column-at size records (pair_number p.v i (first + l)) (length ds) s t))) (sym (count-all d)))

      ivars-run : (l i : ℕ) → inverses records p (s * size + first) widths span l i ≡ take d (drop f (ivars_all l i))
      ivars-run l i =
          let n : ℕ = p.v * length widths + pair_number p.v i (first + l) in
          let q : s * size + first + i * p.v + p.half + l ≡ s * size + n = omega (arith, fit.half_at, mul_comm p.v i) in
          rw q (ends-state (reach_before widths i) (reach_after widths i) (f - begin) (last - (f + d)) f d _ (mask_in ds flags) (expand ds (ivars_by_state l i)) (by_state_long l i ∙ sym (mask-long ds flags)) (within (mask_in ds flags) (mask-long ds flags)) onto
          (expand-run ds (ivars_by_state l i) s f d _ (ivar_of nan) (inverses-length size records n (length ds)) t a.passed.frames o (sym (inverses-at size records n (length ds) s t)))
          a.run.before (omega (arith, ends)))

      closed-next : (ys done w : List Float) → length ys ≡ total ds → w ≡ take d (drop f ys) → ClosedUp f ys done → ClosedUp (f + d) ys (done ++ w)
      closed-next ys done w n q i = rw (append_assoc, q, ← select-next (mask_in ds flags) ys f d d true onto (within ys n) (sym (count-all d))) i

      pub gathering-next : (new : List Float) → Across (λ l b m. m ≡ put_pairs records p (s * size + first) widths span l (length widths) b) p.size p.lanes work new
          → Gathering old new (s + 1) (f + d) (k + d) begin last
      gathering-next new q =
          let state = gathering-state in
          let put-at : (l : ℕ) → l < p.lanes → p.ivars + length widths * p.n ≤ length (region_of p.size l work) = λ l h.
          rw (region-long p.size p.lanes l work h state.room) (omega (arith, fit.ivars-at, fit.ivars_end)) in
          let wide : length widths * p.n ≤ p.ivars = omega (arith, fit.ivars-at) in
          record {
            passed = passed-next a.passed t o g (sym (count-all d));
            run = in_voiced a.run d onto e;
            regions = across-then a.regions q (λ l h x y. record {
              means_done = λ i j. rw (y, put-means records p (s * size + first) widths span l state.voiced (length widths) i (region_of p.size l work) j wide (put-at l h))
                  (closed-next (means_all l i) (part (i * p.n) k (region_of p.size l work)) _ (means_long l i) (means-run l i) (x.means_done i j));
              ivars_done = λ i j. rw (y, put-ivars records p (s * size + first) widths span l state.voiced (length widths) i (region_of p.size l work) j wide (put-at l h))
                  (closed-next (ivars_all l i) (part (p.ivars + i * p.n) k (region_of p.size l work)) _ (ivars_long l i) (ivars-run l i) (x.ivars_done i j));
              behind = rw y (put-behind records p (s * size + first) widths span l state.voiced (length widths) (p.ivars + p.ivars) (region_of p.size l work) (omega arith) wide) ∙ x.behind;
            });
          }

-- ---- all states are passed: the regions have their pairs

-- what lies behind the pairs
rest_read : (g : Layout) (m : List Float) → length m ≡ size_of g → (region_in g m).matrix ++ ((region_in g m).side ++ ((region_in g m).factors ++ (region_in g m).values)) ≡ drop (rows_at g) m
rest_read g m h =
    rw (part-last (values_at g) g.n m (omega arith), part-joined (factors_at g) (g.n * g.w) (values_at g) m refl, part-joined (right_at g) g.n (factors_at g) m refl, part-joined (rows_at g) (g.n * g.w) (right_at g) m refl)

-- a region whose windows have their numbers, with the rest of another one behind them
paired_flat : (size : ℕ) (records : List Float) (v component : ℕ) (widths : List ℕ) (mask : List Bool) (ds : List ℕ) (g : Layout) (b m : List Float) → length widths ≡ g.windows → length b ≡ size_of g
    → ((i : ℕ) → i < length widths → part (i * g.n) g.n m ≡ means_in size records v component mask ds i)
    → ((i : ℕ) → i < length widths → part (ivars_at g + i * g.n) g.n m ≡ ivars_in size records v component widths mask ds i)
    → drop (rows_at g) m ≡ drop (rows_at g) b → m ≡ flat (paired_in size records v widths mask ds component (region_in g b))
paired_flat size records v component widths mask ds g b m w long x y z =
    let whole : part 0 (ivars_at g) m ++ (part (ivars_at g) (ivars_at g) m ++ drop (rows_at g) m) ≡ m = rw (part-joined (ivars_at g) (ivars_at g) (rows_at g) m refl) (part-joined 0 (ivars_at g) (ivars_at g) m (omega arith)) in
    let ms : part 0 (ivars_at g) m ≡ rows (means_in size records v component mask ds) (length widths) =
    ap (λ (n : ℕ). part 0 (n * g.n) m) (sym w) ∙ parts-rows (means_in size records v component mask ds) g.n 0 m (length widths) (λ i j. rw zero-add (x i j)) in
    let is : part (ivars_at g) (ivars_at g) m ≡ rows (ivars_in size records v component widths mask ds) (length widths) =
    ap (λ (n : ℕ). part (ivars_at g) (n * g.n) m) (sym w) ∙ parts-rows (ivars_in size records v component widths mask ds) g.n (ivars_at g) m (length widths) y in
    sym whole ∙ rw (ms, is, rest_read g b long, z)

module _ (size : ℕ) (records : List Float) (widths ds flags : List ℕ) (g : Layout) (c : Group) (old work : List Float) (fit : Paired size (length records) (length widths) ds flags g c (length old)) where
  pub gathered : {s f k begin end : ℕ} → Gathering size records widths ds flags (plan_of (length widths) g c) c.first old work s f k begin end → length ds ≤ s
      → work ≡ each_region g c.lanes (λ l. paired_in size records c.v widths (mask_in ds flags) ds (c.first + l)) old
  unfolding means_in ivars_in select
  gathered {s} {f} {k} a h =
      let n : k ≡ g.n = passed-all a.passed h ∙ fit.lies.voiced in
      let last : drop f (mask_in ds flags) ≡ [] = mask_end ds flags s f a.passed.frames h in
      across_is g c.lanes (λ l. paired_in size records c.v widths (mask_in ds flags) ds (c.first + l)) old fit.lies.room work
      (across_as a.regions (λ l t q.
      paired_flat size records c.v (c.first + l) widths (mask_in ds flags) ds g (region_of (size_of g) l old) (region_of (size_of g) l work) fit.windows
      (region-long (size_of g) c.lanes l old t fit.lies.room)
      (λ i j. sym (append-nil _) ∙ (rw (last, n) at (q.means_done i j)))
      (λ i j. sym (append-nil _) ∙ (rw (last, n) at (q.ivars_done i j)))
      q.behind))
