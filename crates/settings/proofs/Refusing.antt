-- Why a store, a voice or a file is refused.
use mathlib.Core.Path.{◌≡◌, refl}
use mathlib.Core.Bool.{true, false, cond, ◌||◌}
use mathlib.Core.List.{List}
use Prim.Native.Nat.{ℕ, ◌+◌, ◌*◌, ◌≤◌, ◌<◌}
use native.Mathlib.Nat.{mul-le-mul_right}
use native.Mathlib.Omega.{arith}
use borrow.Author.Tests.{lt-ltb, le-ltb, eq-eqb, ne_eqb, ltb-false}
use lib.Dec.{ltb, eqb}
use lib.ListN.{length}
use Rattle.std.specs.Prelude.{Option, Some, None, Err}
use Rattle.std.specs.Option.{ok_or}
use Rattle.lists.specs.declared.Refusal.{Refusal}
use Rattle.lists.specs.Sizes.{most_voices, most_voice}
use Rattle.lists.specs.Bytes.{Bytes, starts_with}
use Rattle.lists.proofs.Spelled.{word_below}
use Rattle.lists.proofs.Flags.{neither}
use Rattle.lists.proofs.Refusals.{or_none}
use Rattle.settings.specs.Store.{store_settings}
use Rattle.settings.specs.Format.{mark, version_of, is_known, count_of, head_bytes, entry_bytes, format_refusal}
use Rattle.settings.specs.Promise.{store_refusal, voice_refusal}

-- ---- a store, and a voice in it

pub large : (voice : ℕ) (voices settings : List ℕ) → most_voice < voice → 3 ≡ voice_refusal voice voices settings
large voice voices settings h = rw (lt-ltb most_voice voice h)

-- a store that isn't refused has its places
pub has_places : (voices settings : List ℕ) → store_refusal voices settings ≡ 0 → (most_voices ≤ length voices) × (store_settings ≤ length settings)
has_places voices settings e =
    (elim (ltb (length voices) most_voices || ltb (length settings) store_settings) as (λ t. ltb (length voices) most_voices || ltb (length settings) store_settings ≡ t → ◌≡◌ {A = ℕ} (cond t 6 0) 0 → (most_voices ≤ length voices) × (store_settings ≤ length settings)) [
      | true ↦ λ q g. absurd (omega arith)
      | false ↦ λ q g. let n = neither _ _ q in (ltb-false (length voices) most_voices n.0, ltb-false (length settings) store_settings n.1)
    ])
    refl
    e

-- and so has one in which a voice isn't refused
pub placed : (voice : ℕ) (voices settings : List ℕ) → voice_refusal voice voices settings ≡ 0 → (most_voices ≤ length voices) × (store_settings ≤ length settings)
placed voice voices settings e = has_places voices settings (or_none (cond (ltb most_voice voice) 3 0) (store_refusal voices settings) e).1

-- ---- what is missing is refused with this

pub missing : {A : Type 0} (o : Option A) (d e : Refusal) → Err d ≡ ok_or o e → o ≡ None → d ≡ e
missing (Some x) d e q n = absurd (let z : ◌≡◌ {A = ℕ} 0 1 = cc in omega arith)
missing None d e q n = cc

-- ---- a file

module _ (bytes : List ℕ) where
  pub not_marked : starts_with mark bytes ≡ false → 18 ≡ format_refusal bytes
  unfolding format_refusal
  not_marked m = rw m

  module _ (m : starts_with mark bytes ≡ true) where
    pub ends_early : length bytes < 5 → 18 ≡ format_refusal bytes
    unfolding format_refusal
    ends_early h = rw (m, lt-ltb (length bytes) 5 h)

    module _ (h : 5 ≤ length bytes) (version : ℕ) (v : version ≡ version_of bytes) where
      pub unknown : is_known version ≡ false → 16 ≡ format_refusal bytes
      unfolding format_refusal
      unknown k = rw (m, le-ltb (length bytes) 5 h, ← v, k)

      module _ (k : is_known version ≡ true) (size count : ℕ) (s : size ≡ entry_bytes version) (c : count ≡ count_of bytes) where
        pub other_length : (length bytes ≡ head_bytes + size * count → ⊥) → 18 ≡ format_refusal bytes
        unfolding format_refusal
        other_length d = rw (m, le-ltb (length bytes) 5 h, ← v, k, ← s, ← c, ne_eqb (length bytes) (head_bytes + size * count) d)

        pub well_formed : length bytes ≡ head_bytes + size * count → 0 ≡ format_refusal bytes
        unfolding format_refusal
        well_formed e = rw (m, le-ltb (length bytes) 5 h, ← v, k, ← s, ← c, eq-eqb (length bytes) (head_bytes + size * count) e)

-- a record has 26 bytes at most
pub entry-most : (version : ℕ) → entry_bytes version ≤ 26
entry-most version = (elim (eqb version 1) as (λ t. cond t 18 26 ≤ 26) [ true ↦ omega arith | false ↦ omega arith ])

-- so records of that many bytes lie within 32 bits
pub entries_fit : (bytes : List ℕ) (version size count i : ℕ) → Bytes bytes → size ≡ entry_bytes version → count ≡ count_of bytes → i ≤ count → head_bytes + size * i < 4294967296
entries_fit bytes version size count i b s c h =
    let w : count < 65536 = rw c (word_below bytes b 5) in
    omega (arith, mul-le-mul_right i (let q : size ≤ 26 = rw s (entry-most version) in q))
