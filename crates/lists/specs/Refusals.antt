-- The number of a refusal, 0 for none.
use Rattle.std.specs.Prelude.{ℕ, zero, suc}
use Rattle.lists.specs.declared.Refusal.{Refusal}
use Rattle.lists.specs.declared.Refusal.TheVariants.{BadWindows, BadCoefficient, BadSize, ListsDisagree, TooManyFrames, TooLittleRoom, TargetTooLong, EstimateTooLong, NoSuchPlace, JobEnded, BadShortest, SettingsVersion, StoreFull, SettingsMalformed, VoiceNotHeld, RunWithGv, NoSuchRun, RunFirstWindow, NotYourSlot, SlotEmpty, SlotSet}

-- RULES, Refusals: each refusal's number; those of a damaged job are `damage_number`'s of the crate `job`
abbrev pub number_of : Refusal → ℕ
number_of BadWindows = 1
number_of BadCoefficient = 2
number_of BadSize = 3
number_of ListsDisagree = 4
number_of TooManyFrames = 5
number_of TooLittleRoom = 6
number_of TargetTooLong = 7
number_of EstimateTooLong = 8
number_of NoSuchPlace = 10
number_of JobEnded = 11
number_of BadShortest = 15
number_of SettingsVersion = 16
number_of StoreFull = 17
number_of SettingsMalformed = 18
number_of VoiceNotHeld = 19
number_of RunWithGv = 20
number_of NoSuchRun = 21
number_of RunFirstWindow = 22
number_of NotYourSlot = 23
number_of SlotEmpty = 24
number_of SlotSet = 25

-- RULES, Refusals: of the numbers that apply the first that is asked for is given, or where that is none the next
abbrev pub or_else : ℕ → ℕ → ℕ
or_else zero next = next
or_else (suc k) next = suc k
