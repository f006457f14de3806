-- What is written is a job, and is read back as the same, in either version.
use mathlib.Core.Path.{◌≡◌, refl, sym, ap, ◌∙◌}
use mathlib.Core.Bool.{true, false, cond}
use mathlib.Core.List.{List, [], ◌∷◌, ◌++◌, append_assoc}
use Prim.Native.Nat.{ℕ, zero, suc, ◌+◌, ◌*◌, ◌<◌}
use native.Mathlib.Nat.{mul-zero, mul-suc}
use native.Mathlib.Omega.{arith}
use lib.Dec.{eqb}
use lib.ListN.{length, take, drop, get_or, length-append}
use lib.Seq.{take_at, drop_at, drop-append-add, drop-drop}
use lib.Ieee.{Float, nan, binary64, of_bits}
use borrow.Author.Tests.{eqb-true}
use Rattle.lists.specs.Bytes.{little, bytes_of, Bytes}
use Rattle.lists.proofs.Bytes.{bytes-length, little-bytes}
use Rattle.lists.proofs.Spelled.{bytes-append, bytes_of_lem}
use Rattle.lists.proofs.Builds.{build_is}
use Rattle.floats.proofs.Fields.{bytes_back}
use Rattle.job.specs.Format.{float_at, number_at, floats_at, mark, version_of, is_known, count_of, state_bytes, IsJob, Job, numbers_behind, shortest_at, job_of}
use Rattle.job.specs.Damage.{sound, damage_of}
use Rattle.job.specs.Written.{bytes_of_float, bytes_of_state, bytes_of_states, bytes_of_heading, bytes_of_job, Writable}
use Rattle.job.proofs.Damages.{job-sound}

-- ---- a known version is 1 or 2

pub known_2 : (version : ℕ) → is_known version ≡ true → eqb version 1 ≡ false → version ≡ 2
known_2 version k n = eqb-true version 2 (rw n at k)

version-small : (version : ℕ) → is_known version ≡ true → version < 65536
version-small version k =
    (elim (eqb version 1) as (λ b. eqb version 1 ≡ b → version < 65536) [
      | true ↦ λ q. omega (arith, eqb-true version 1 q)
      | false ↦ λ q. omega (arith, known_2 version k q)
    ])
    refl

module _ (version : ℕ) where
  -- ---- lengths

  heading-long : (n : ℕ) (x : Float) → length (bytes_of_heading version n x) ≡ 15
  unfolding bytes_of_heading bytes_of
  heading-long n x = refl

  abbrev size : ℕ
  size = state_bytes version

  state-long : (m v : Float) (s : ℕ) → length (bytes_of_state version m v s) ≡ size
  unfolding bytes_of
  state-long m v s = (elim (eqb version 1) as (λ t. length (bytes_of_float m ++ (bytes_of_float v ++ cond t [] (bytes_of 4 s))) ≡ cond t 16 20) [ true ↦ refl | false ↦ refl ])

  states-long : (ms vs : List Float) (ss : List ℕ) → length vs ≡ length ms → length ss ≡ length ms → length (bytes_of_states version ms vs ss) ≡ size * length ms
  unfolding bytes_of_states
  states-long [] vs ss e f = sym (mul-zero size)
  states-long (m ∷ ms) [] ss e f = absurd (omega arith)
  states-long (m ∷ ms) (v ∷ vs) [] e f = absurd (omega arith)
  states-long (m ∷ ms) (v ∷ vs) (s ∷ ss) e f =
      length-append (bytes_of_state version m v s) (bytes_of_states version ms vs ss) ∙ omega (arith, state-long m v s, states-long ms vs ss (omega arith) (omega arith), mul-suc size (length ms))

  -- ---- state i

  state-from : (ms vs : List Float) (ss : List ℕ) (i : ℕ) → i < length ms → length vs ≡ length ms → length ss ≡ length ms
      → drop (size * i) (bytes_of_states version ms vs ss) ≡ bytes_of_state version (get_or ms i nan) (get_or vs i nan) (get_or ss i 0) ++ bytes_of_states version (drop (suc i) ms) (drop (suc i) vs) (drop (suc i) ss)
  unfolding bytes_of_states
  state-from [] vs ss i h e f = absurd (omega arith)
  state-from (m ∷ ms) [] ss i h e f = absurd (omega arith)
  state-from (m ∷ ms) (v ∷ vs) [] i h e f = absurd (omega arith)
  state-from (m ∷ ms) (v ∷ vs) (s ∷ ss) zero h e f = rw (mul-zero size)
  state-from (m ∷ ms) (v ∷ vs) (s ∷ ss) (suc i) h e f =
      let k : size * suc i ≡ length (bytes_of_state version m v s) + size * i = omega (arith, state-long m v s, mul-suc size i) in
      rw k (drop-append-add (bytes_of_state version m v s) (bytes_of_states version ms vs ss) (size * i) ∙ state-from ms vs ss i (omega arith) (omega arith) (omega arith))

module _ (version : ℕ) (j : Job) (w : Writable version j) where
  abbrev n : ℕ
  n = length j.means

  abbrev step : ℕ
  step = state_bytes version

  abbrev heading : List ℕ
  heading = bytes_of_heading version n j.speed

  abbrev states : List ℕ
  states = bytes_of_states version j.means j.varis j.shortest

  abbrev file : List ℕ
  file = bytes_of_job version j

  behind : (k : ℕ) → drop (15 + k) file ≡ drop k states
  unfolding bytes_of_job
  behind k = let e : 15 + k ≡ length heading + k = rw (heading-long version n j.speed) in rw e (drop-append-add heading states k)

  -- one state
  module _ (i : ℕ) (h : i < n) where
    abbrev mean : List ℕ
    mean = bytes_of_float (get_or j.means i nan)

    abbrev vari : List ℕ
    vari = bytes_of_float (get_or j.varis i nan)

    abbrev number : List ℕ
    number = cond (eqb version 1) [] (bytes_of 4 (get_or j.shortest i 0))

    abbrev rest : List ℕ
    rest = bytes_of_states version (drop (suc i) j.means) (drop (suc i) j.varis) (drop (suc i) j.shortest)

    -- from each of its three on
    from-mean : drop (15 + step * i) file ≡ mean ++ (vari ++ (number ++ rest))
    from-mean =
        behind (step * i)
        ∙ state-from version j.means j.varis j.shortest i h w.agree.0 w.agree.1
        ∙ append_assoc mean (vari ++ number) rest
        ∙ ap (λ (l : List ℕ). mean ++ l) (append_assoc vari number rest)

    from-vari : drop (23 + step * i) file ≡ vari ++ (number ++ rest)
    from-vari =
        let k : 23 + step * i ≡ 15 + step * i + 8 = omega arith in
        rw k (sym (drop-drop 8 (15 + step * i) file) ∙ ap (drop 8) from-mean ∙ drop_at mean (vari ++ (number ++ rest)) 8 (bytes-length 8 _))

    from-number : drop (31 + step * i) file ≡ number ++ rest
    from-number =
        let k : 31 + step * i ≡ 23 + step * i + 8 = omega arith in
        rw k (sym (drop-drop 8 (23 + step * i) file) ∙ ap (drop 8) from-vari ∙ drop_at vari (number ++ rest) 8 (bytes-length 8 _))

    pub mean-part : take 8 (drop (15 + step * i) file) ≡ mean
    mean-part = ap (take 8) from-mean ∙ take_at mean (vari ++ (number ++ rest)) 8 (bytes-length 8 _)

    pub vari-part : take 8 (drop (23 + step * i) file) ≡ vari
    vari-part = ap (take 8) from-vari ∙ take_at vari (number ++ rest) 8 (bytes-length 8 _)

    mean-back : float_at file (15 + step * i) ≡ get_or j.means i nan
    mean-back = ap (λ (b : List ℕ). of_bits binary64 (little b)) mean-part ∙ bytes_back (get_or j.means i nan) (w.means i)

    vari-back : float_at file (23 + step * i) ≡ get_or j.varis i nan
    vari-back = ap (λ (b : List ℕ). of_bits binary64 (little b)) vari-part ∙ bytes_back (get_or j.varis i nan) (w.varis i)

    number-back : eqb version 1 ≡ false → number_at file (31 + 20 * i) ≡ get_or j.shortest i 0
    number-back q =
        let s : ℕ = get_or j.shortest i 0 in
        let f : drop (31 + 20 * i) file ≡ bytes_of 4 s ++ rest = rw q at from-number in
        ap (λ (l : List ℕ). little (take 4 l)) f ∙ ap little (take_at (bytes_of 4 s) rest 4 (bytes-length 4 s)) ∙ little-bytes 4 s (w.small (known_2 version w.known q) i)

  version-back : version_of file ≡ version
  unfolding bytes_of_job bytes_of_heading bytes_of
  version-back = little-bytes 2 version (version-small version w.known)

  count-back : count_of file ≡ n
  unfolding bytes_of_job bytes_of_heading bytes_of
  count-back = little-bytes 2 n (omega (arith, w.few))

  pub speed-part : take 8 (drop 7 file) ≡ bytes_of_float j.speed
  unfolding bytes_of_job bytes_of_heading bytes_of
  speed-part = refl

  speed-back : float_at file 7 ≡ j.speed
  speed-back = ap (λ (b : List ℕ). of_bits binary64 (little b)) speed-part ∙ bytes_back j.speed w.speed

  means-back : floats_at file 15 step n ≡ j.means
  unfolding floats_at
  means-back = sym (build_is (λ (i : ℕ). float_at file (15 + step * i)) n j.means nan refl (λ i h. sym (mean-back i h)))

  varis-back : floats_at file 23 step n ≡ j.varis
  unfolding floats_at
  varis-back = sym (build_is (λ (i : ℕ). float_at file (23 + step * i)) n j.varis nan w.agree.0 (λ i h. sym (vari-back i h)))

  numbers-back : eqb version 1 ≡ false → numbers_behind file n ≡ j.shortest
  unfolding numbers_behind
  numbers-back q = sym (build_is (λ (i : ℕ). number_at file (31 + 20 * i)) n j.shortest 0 w.agree.1 (λ i h. sym (number-back i h q)))

  shortest-back : shortest_at version file n ≡ j.shortest
  shortest-back =
      (elim (eqb version 1) as (λ t. eqb version 1 ≡ t → shortest_at version file n ≡ j.shortest) [
        | true ↦ λ q. rw q (sym (w.ones (eqb-true version 1 q)))
        | false ↦ λ q. rw q (numbers-back q)
      ])
      refl

  -- it is read back as the same
  pub written_back : job_of file ≡ j
  written_back = rw (version-back, count-back, speed-back, means-back, varis-back, shortest-back)

  written-long : length file ≡ 15 + step * n
  unfolding bytes_of_job
  written-long = length-append heading states ∙ omega (arith, heading-long version n j.speed, states-long version j.means j.varis j.shortest w.agree.0 w.agree.1)

  marked : take 3 file ≡ mark
  unfolding bytes_of_job bytes_of_heading
  marked = refl

  -- it is a job of that version
  pub written-job : IsJob file × (version_of file ≡ version)
  written-job = (record { marked = marked; versioned = rw version-back w.known; few = rw count-back w.few; whole = rw (version-back, count-back) written-long }, version-back)

  -- and is not refused for its bytes
  pub written-accepted : damage_of file ≡ sound
  written-accepted = job-sound file written-job.0

-- ---- each number that is written is a byte

pub bytes-mark : Bytes mark
bytes-mark zero = omega arith
bytes-mark (suc zero) = omega arith
bytes-mark (suc (suc zero)) = omega arith
bytes-mark (suc (suc (suc i))) = omega arith

module _ (version : ℕ) where
  bytes-shortest : (s : ℕ) → Bytes (cond (eqb version 1) [] (bytes_of 4 s))
  bytes-shortest s = (elim (eqb version 1) as (λ t. Bytes (cond t [] (bytes_of 4 s))) [ true ↦ λ i. omega arith | false ↦ bytes_of_lem 4 s ])

  bytes-state : (m v : Float) (s : ℕ) → Bytes (bytes_of_state version m v s)
  bytes-state m v s = bytes-append (bytes_of_float m) _ (bytes_of_lem 8 _) (bytes-append (bytes_of_float v) _ (bytes_of_lem 8 _) (bytes-shortest s))

  bytes-states : (ms vs : List Float) (ss : List ℕ) → Bytes (bytes_of_states version ms vs ss)
  unfolding bytes_of_states
  bytes-states [] vs ss i = omega arith
  bytes-states (m ∷ ms) [] ss i = omega arith
  bytes-states (m ∷ ms) (v ∷ vs) [] i = omega arith
  bytes-states (m ∷ ms) (v ∷ vs) (s ∷ ss) i = bytes-append (bytes_of_state version m v s) (bytes_of_states version ms vs ss) (bytes-state m v s) (bytes-states ms vs ss) i

  bytes-heading : (n : ℕ) (x : Float) → Bytes (bytes_of_heading version n x)
  unfolding bytes_of_heading
  bytes-heading n x =
      let b : List ℕ = bytes_of 2 n ++ bytes_of_float x in
      bytes-append mark (bytes_of 2 version ++ b) bytes-mark (bytes-append (bytes_of 2 version) b (bytes_of_lem 2 version) (bytes-append (bytes_of 2 n) (bytes_of_float x) (bytes_of_lem 2 n) (bytes_of_lem 8 _)))

  pub written-bytes : (j : Job) → Bytes (bytes_of_job version j)
  unfolding bytes_of_job
  written-bytes j = bytes-append (bytes_of_heading version (length j.means) j.speed) (bytes_of_states version j.means j.varis j.shortest) (bytes-heading (length j.means) j.speed) (bytes-states j.means j.varis j.shortest)
