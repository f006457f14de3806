-- Which places hold a voice, and how many do.
use mathlib.Core.Path.{◌≡◌, sym, ◌∙◌}
use mathlib.Core.Bool.{◌&&◌}
use mathlib.Core.List.{List}
use Prim.Native.Nat.{ℕ, ◌≤◌, ◌<◌}
use native.Mathlib.Omega.{arith}
use borrow.Author.Tests.{lt-ltb, le-ltb}
use lib.Dec.{leb, eqb}
use lib.ListN.{length, take, get_or, length-take}
use Rattle.lists.specs.Sizes.{most_voices, most_voice}
use Rattle.lists.specs.Build.{build}
use Rattle.lists.specs.Frames.{count}
use Rattle.lists.specs.Firsts.{first_at}
use Rattle.lists.proofs.Counts.{count_most}
use Rattle.lists.proofs.Chosen.{at_any}
use Rattle.std.specs.Prelude.{Result, Ok, Err}
use Rattle.lists.specs.declared.Refusal.{Refusal}
use Rattle.lists.specs.declared.Refusal.TheVariants.{TooLittleRoom}
use Rattle.lists.proofs.Answers.{same}
use Rattle.lists.proofs.Ends.{counted-one}
use Rattle.settings.specs.Store.{free, holds_at, holding, held_in}
use Rattle.settings.specs.Promise.{CountSays}
use Rattle.settings.proofs.Places.{holding-long}

pub holds_is : (voices : List ℕ) (i first : ℕ) → i < length voices → first ≡ first_at (get_or voices i 0) voices → leb (get_or voices i 0) most_voice && eqb first i ≡ holds_at voices i
holds_is voices i first h e = rw (e, at_any voices i 0 free h)

-- a loop that counts, as lists' laws say, has counted all
pub held_all : (voices : List ℕ) (n : ℕ) → n ≡ count (build (holds_at voices) (length voices)) → n ≡ held_in voices
unfolding holding
held_all voices n e = e

-- ---- how many

pub held-most : (voices : List ℕ) → held_in voices ≤ length voices
held-most voices = omega (arith, count_most (holding voices), holding-long voices)

-- of a store's places
pub held-few : (voices : List ℕ) → held_in (take most_voices voices) ≤ most_voices
held-few voices = omega (arith, held-most (take most_voices voices), length-take most_voices voices)

pub count-short : (voices : List ℕ) → length voices < most_voices → CountSays voices (Err TooLittleRoom)
count-short voices h = rw (lt-ltb (length voices) most_voices h)

pub count-done : (voices : List ℕ) (n : ℕ) → most_voices ≤ length voices → n ≡ held_in (take most_voices voices) → CountSays voices (Ok n)
count-done voices n h e = rw (le-ltb (length voices) most_voices h, e)

-- two answers that count allows are equal
pub count-one : (voices : List ℕ) (r s : Result ℕ Refusal) → CountSays voices r → CountSays voices s → r ≡ s
count-one voices r s f g = counted-one r s (same (f ∙ sym g))
