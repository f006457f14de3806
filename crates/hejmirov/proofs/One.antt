-- Two outcomes that a C call's promise allows are equal.
use mathlib.Core.Path.{◌≡◌, sym, ap, ◌∙◌}
use mathlib.Core.List.{List}
use Prim.Native.Nat.{ℕ}
use lib.Ieee.{Float}
use Rattle.lists.specs.Answers.{Answer}
use Rattle.lists.proofs.Answers.{same}
use Rattle.steps.specs.Steps.{States}
use Rattle.duration.specs.Promise.{aligned}
use Rattle.duration.proofs.Calls.{fit-says-one, speed-says-one, align_says_one}
use Rattle.mlpg_adjust.specs.Promise.{created}
use Rattle.voicing.proofs.Ways.{masked_one}
use Rattle.band.proofs.Ways.{band-one}
use Rattle.mlpg_adjust.proofs.One.{create_one}
use Rattle.job.specs.Promise.{answered}
use Rattle.job.proofs.Outcomes.{job_one}
use Rattle.job.proofs.LinkOutcomes.{link_begin_one, link_part_one, link_end_one}
use Rattle.spool.proofs.One.{place-one, span-one}
use Rattle.lists.specs.Ends.{counted, spanned, refused}
use Rattle.settings.proofs.Changing.{clear_one, set-one, get_one, remove_one, read_one}
use Rattle.settings.proofs.Holding.{count-one}
use Rattle.settings.proofs.Writing.{write_one}
use Rattle.read_along.specs.Promise.{counted_as, parted_as}
use Rattle.read_along.proofs.One as words
use Rattle.runs.proofs.One.{runs-one, run-one}
use Rattle.std.specs.Prelude.{Result}
use Rattle.lists.specs.declared.Refusal.{Refusal}
use Rattle.houses.specs.Slots.{Table}
use Rattle.houses.proofs.One as houses
use Rattle.hejmirov.specs.Houses.{TableStartCallSays, TableSetCallSays, TableClearCallSays, TableUseCallSays, TableFreeCallSays}
use Rattle.hejmirov.specs.Runs.{RunsCallSays, RunCallSays}
use Rattle.hejmirov.specs.Words.{WordsSpansCallSays, WordsMillisecondsCallSays, WordsAtCallSays, WordsExcerptCallSays, WordsWriteCallSays, WordsReadCallSays}
use Rattle.hejmirov.specs.Settings.{bits_of, got_number, handed_float, SettingsClearCallSays, SettingsSetCallSays, SettingsGetCallSays, SettingsRemoveCallSays, SettingsCountCallSays, SettingsReadCallSays, SettingsWriteCallSays}
use Rattle.hejmirov.specs.Promise.{handed, HandsOne, HandsTwo, HandsThree, HandsJob, stream_of, FitCallSays, SpeedCallSays, AlignCallSays, MaskCallSays, BandCallSays, TrajectoryCallSays, PlaceCallSays, ExcerptCallSays, JobCallSays, LinkBeginCallSays, LinkPartCallSays, LinkEndCallSays}

-- one answer gives one number and one value
pub hands_one : (a b : Answer) (old r s x y : ℕ) → a ≡ b → HandsOne a old r x → HandsOne b old s y → (r ≡ s) × (x ≡ y)
hands_one a b old r s x y e p q =
    (p.answers ∙ (same e).0 ∙ sym q.answers, p.value ∙ ap (λ c. handed c 0 old) (same e).1 ∙ sym q.value)

pub hands_two : (a b : Answer) (o₀ o₁ r s x₀ x₁ y₀ y₁ : ℕ) → a ≡ b → HandsTwo a o₀ o₁ r x₀ x₁ → HandsTwo b o₀ o₁ s y₀ y₁ → (r ≡ s) × (x₀ ≡ y₀) × (x₁ ≡ y₁)
hands_two a b o₀ o₁ r s x₀ x₁ y₀ y₁ e p q =
    (p.answers ∙ (same e).0 ∙ sym q.answers, p.first ∙ ap (λ c. handed c 0 o₀) (same e).1 ∙ sym q.first, p.second ∙ ap (λ c. handed c 1 o₁) (same e).1 ∙ sym q.second)

hands_three : (a b : Answer) (o₀ o₁ o₂ r s x₀ x₁ x₂ y₀ y₁ y₂ : ℕ) → a ≡ b → HandsThree a o₀ o₁ o₂ r x₀ x₁ x₂ → HandsThree b o₀ o₁ o₂ s y₀ y₁ y₂
    → (r ≡ s) × (x₀ ≡ y₀) × (x₁ ≡ y₁) × (x₂ ≡ y₂)
hands_three a b o₀ o₁ o₂ r s x₀ x₁ x₂ y₀ y₁ y₂ e p q =
    (p.answers ∙ (same e).0 ∙ sym q.answers, p.first ∙ ap (λ c. handed c 0 o₀) (same e).1 ∙ sym q.first, p.second ∙ ap (λ c. handed c 1 o₁) (same e).1 ∙ sym q.second, p.third ∙ ap (λ c. handed c 2 o₂) (same e).1 ∙ sym q.third)

hands_job : (a b : Answer) (o₀ o₁ o₂ at r s x₀ x₁ x₂ p y₀ y₁ y₂ q : ℕ) → a ≡ b → HandsJob a o₀ o₁ o₂ at r x₀ x₁ x₂ p → HandsJob b o₀ o₁ o₂ at s y₀ y₁ y₂ q
    → (r ≡ s) × (x₀ ≡ y₀) × (x₁ ≡ y₁) × (x₂ ≡ y₂) × (p ≡ q)
hands_job a b o₀ o₁ o₂ at r s x₀ x₁ x₂ p y₀ y₁ y₂ q e f g =
    let h = hands_three a b o₀ o₁ o₂ r s x₀ x₁ x₂ y₀ y₁ y₂ e f.three g.three in
    (h.0, h.1, h.2, h.3, f.place ∙ ap (λ c. handed c 0 at) (same e).2 ∙ sym g.place)

module _ (ss : States) (out work o₁ w₁ o₂ w₂ : List ℕ) (changes r s x y : ℕ) where
  pub fit-call-one : (len : Float) → FitCallSays ss len out work changes r o₁ w₁ x → FitCallSays ss len out work changes s o₂ w₂ y → (r ≡ s) × (o₁ ≡ o₂) × (w₁ ≡ w₂) × (x ≡ y)
  fit-call-one len f g =
      let t = fit-says-one ss len out work o₁ o₂ w₁ w₂ f.answer g.answer f.says g.says in
      let h = hands_one (counted f.answer) (counted g.answer) changes r s x y (ap counted t.0) f.gives g.gives in
      (h.0, t.1, t.2, h.1)

  pub speed-call-one : (speed : Float) → SpeedCallSays ss speed out work changes r o₁ w₁ x → SpeedCallSays ss speed out work changes s o₂ w₂ y → (r ≡ s) × (o₁ ≡ o₂) × (w₁ ≡ w₂) × (x ≡ y)
  speed-call-one speed f g =
      let t = speed-says-one ss speed out work o₁ o₂ w₁ w₂ f.answer g.answer f.says g.says in
      let h = hands_one (counted f.answer) (counted g.answer) changes r s x y (ap counted t.0) f.gives g.gives in
      (h.0, t.1, t.2, h.1)

  pub align_call_one : (nstate : ℕ) (ends : List Float) (written x₀ y₀ : ℕ) → AlignCallSays ss nstate ends out work written changes r o₁ w₁ x₀ x → AlignCallSays ss nstate ends out work written changes s o₂ w₂ y₀ y
      → (r ≡ s) × (o₁ ≡ o₂) × (w₁ ≡ w₂) × (x₀ ≡ y₀) × (x ≡ y)
  align_call_one nstate ends written x₀ y₀ f g =
      let t = align_says_one ss nstate ends out work o₁ o₂ w₁ w₂ f.answer g.answer f.says g.says in
      let h = hands_two (aligned f.answer) (aligned g.answer) written changes r s x₀ x y₀ y (ap aligned t.0) f.gives g.gives in
      (h.0, t.1, t.2, h.1, h.2)

pub runs-call-one : (v masked : ℕ) (threshold : Float) (windows : ℕ) (records : List Float) (ds runs : List ℕ) (count r s : ℕ) (o₁ o₂ : List ℕ) (x y : ℕ)
    → RunsCallSays v masked threshold windows records ds runs count r o₁ x → RunsCallSays v masked threshold windows records ds runs count s o₂ y → (r ≡ s) × (o₁ ≡ o₂) × (x ≡ y)
runs-call-one v masked threshold windows records ds runs count r s o₁ o₂ x y f g =
    let t = runs-one v _ threshold windows records ds runs f.answer g.answer o₁ o₂ f.says g.says in
    let h = hands_one (counted f.answer) (counted g.answer) count r s x y (ap counted t.0) f.gives g.gives in
    (h.0, t.1, h.1)

pub run-call-one : (v masked : ℕ) (threshold none : Float) (gv_on : ℕ) (weight : Float) (widths : List ℕ) (coefs records : List Float) (ds : List ℕ) (gv : List Float) (switches : List ℕ) (run : ℕ)
    (out work : List Float) (marks : List ℕ) (frames r s : ℕ) (o₁ w₁ : List Float) (m₁ : List ℕ) (x : ℕ) (o₂ w₂ : List Float) (m₂ : List ℕ) (y : ℕ)
    → RunCallSays v masked threshold none gv_on weight widths coefs records ds gv switches run out work marks frames r o₁ w₁ m₁ x
    → RunCallSays v masked threshold none gv_on weight widths coefs records ds gv switches run out work marks frames s o₂ w₂ m₂ y
    → (r ≡ s) × (o₁ ≡ o₂) × (w₁ ≡ w₂) × (m₁ ≡ m₂) × (x ≡ y)
run-call-one v masked threshold none gv_on weight widths coefs records ds gv switches run out work marks frames r s o₁ w₁ m₁ x o₂ w₂ m₂ y f g =
    let t = run-one (stream_of v masked threshold none gv_on weight) widths coefs records ds gv switches run out work marks f.answer g.answer o₁ w₁ m₁ o₂ w₂ m₂ f.says g.says in
    let h = hands_one (counted f.answer) (counted g.answer) frames r s x y (ap counted t.0) f.gives g.gives in
    (h.0, t.1, t.2, t.3, h.1)

pub place-call-one : (frame component v place r s x y : ℕ) → PlaceCallSays frame component v place r x → PlaceCallSays frame component v place s y → (r ≡ s) × (x ≡ y)
place-call-one frame component v place r s x y f g =
    hands_one (counted f.answer) (counted g.answer) place r s x y (ap counted (place-one frame component v f.answer g.answer f.says g.says)) f.gives g.gives

pub excerpt_call_one : (trajectory : List Float) (durations : List ℕ) (v state first count r s x₀ x₁ y₀ y₁ : ℕ) → ExcerptCallSays trajectory durations v state first count r x₀ x₁ → ExcerptCallSays trajectory durations v state first count s y₀ y₁
    → (r ≡ s) × (x₀ ≡ y₀) × (x₁ ≡ y₁)
excerpt_call_one trajectory durations v state first count r s x₀ x₁ y₀ y₁ f g =
    hands_two (spanned f.answer) (spanned g.answer) first count r s x₀ x₁ y₀ y₁ (ap spanned (span-one trajectory durations v state f.answer g.answer f.says g.says)) f.gives g.gives

pub mask-call-one : (ws : List Float) (threshold : Float) (ds voiced left right : List ℕ) (frames r s : ℕ) (v₁ l₁ r₁ v₂ l₂ r₂ : List ℕ) (x y : ℕ)
    → MaskCallSays ws threshold ds voiced left right frames r v₁ l₁ r₁ x → MaskCallSays ws threshold ds voiced left right frames s v₂ l₂ r₂ y → (r ≡ s) × (v₁ ≡ v₂) × (l₁ ≡ l₂) × (r₁ ≡ r₂) × (x ≡ y)
mask-call-one ws threshold ds voiced left right frames r s v₁ l₁ r₁ v₂ l₂ r₂ x y f g =
    let t = masked_one ws threshold ds voiced left right f.answer g.answer v₁ l₁ r₁ v₂ l₂ r₂ f.says g.says in
    let h = hands_one (counted f.answer) (counted g.answer) frames r s x y (ap counted t.0) f.gives g.gives in
    (h.0, t.1, t.2, t.3, h.1)

pub band-call-one : (widths : List ℕ) (coefs means ivars rows right : List Float) (r s : ℕ) (A₁ R₁ A₂ R₂ : List Float)
    → BandCallSays widths coefs means ivars rows right r A₁ R₁ → BandCallSays widths coefs means ivars rows right s A₂ R₂ → (r ≡ s) × (A₁ ≡ A₂) × (R₁ ≡ R₂)
band-call-one widths coefs means ivars rows right r s A₁ R₁ A₂ R₂ f g =
    let t = band-one widths coefs means ivars rows right f.answer g.answer A₁ R₁ A₂ R₂ f.says g.says in
    (f.gives ∙ ap (λ b. (counted b).number) t.0 ∙ sym g.gives, t.1, t.2)

pub trajectory-call-one : (v masked : ℕ) (threshold none : Float) (gv_on : ℕ) (weight : Float) (widths : List ℕ) (coefs records : List Float) (ds : List ℕ) (gv : List Float) (switches : List ℕ)
    (out work : List Float) (marks : List ℕ) (high low r s : ℕ) (o₁ w₁ : List Float) (m₁ : List ℕ) (x₀ x₁ : ℕ) (o₂ w₂ : List Float) (m₂ : List ℕ) (y₀ y₁ : ℕ)
    → TrajectoryCallSays v masked threshold none gv_on weight widths coefs records ds gv switches out work marks high low r o₁ w₁ m₁ x₀ x₁
    → TrajectoryCallSays v masked threshold none gv_on weight widths coefs records ds gv switches out work marks high low s o₂ w₂ m₂ y₀ y₁
    → (r ≡ s) × (o₁ ≡ o₂) × (w₁ ≡ w₂) × (m₁ ≡ m₂) × (x₀ ≡ y₀) × (x₁ ≡ y₁)
trajectory-call-one v masked threshold none gv_on weight widths coefs records ds gv switches out work marks high low r s o₁ w₁ m₁ x₀ x₁ o₂ w₂ m₂ y₀ y₁ f g =
    let t = create_one (stream_of v masked threshold none gv_on weight) widths coefs records ds gv switches out work marks f.answer g.answer o₁ w₁ m₁ o₂ w₂ m₂ f.says g.says in
    let h = hands_two (created f.answer) (created g.answer) high low r s x₀ x₁ y₀ y₁ (ap created t.0) f.gives g.gives in
    (h.0, t.1, t.2, t.3, h.1, h.2)

pub job-call-one : (bytes out work : List ℕ) (states frames changes place r s : ℕ) (o₁ w₁ o₂ w₂ : List ℕ) (x₀ x₁ x₂ p y₀ y₁ y₂ q : ℕ)
    → JobCallSays bytes out work states frames changes place r o₁ w₁ x₀ x₁ x₂ p → JobCallSays bytes out work states frames changes place s o₂ w₂ y₀ y₁ y₂ q
    → (r ≡ s) × (o₁ ≡ o₂) × (w₁ ≡ w₂) × (x₀ ≡ y₀) × (x₁ ≡ y₁) × (x₂ ≡ y₂) × (p ≡ q)
job-call-one bytes out work states frames changes place r s o₁ w₁ o₂ w₂ x₀ x₁ x₂ p y₀ y₁ y₂ q f g =
    let t = job_one bytes out work o₁ o₂ w₁ w₂ f.answer g.answer f.says g.says in
    let h = hands_job (answered f.answer) (answered g.answer) states frames changes place r s x₀ x₁ x₂ p y₀ y₁ y₂ q (ap answered t.0) f.gives g.gives in
    (h.0, t.1, t.2, h.1, h.2, h.3, h.4)

pub link_begin_call_one : (link : List ℕ) (r s : ℕ) (l₁ l₂ : List ℕ) → LinkBeginCallSays link r l₁ → LinkBeginCallSays link s l₂ → (r ≡ s) × (l₁ ≡ l₂)
link_begin_call_one link r s l₁ l₂ f g =
    let t = link_begin_one link f.answer g.answer l₁ l₂ f.says g.says in
    (f.gives ∙ ap refused t.0 ∙ sym g.gives, t.1)

pub link_part_call_one : (link bytes : List ℕ) (r s : ℕ) (l₁ l₂ : List ℕ) → LinkPartCallSays link bytes r l₁ → LinkPartCallSays link bytes s l₂ → (r ≡ s) × (l₁ ≡ l₂)
link_part_call_one link bytes r s l₁ l₂ f g =
    let t = link_part_one link bytes f.answer g.answer l₁ l₂ f.says g.says in
    (f.gives ∙ ap refused t.0 ∙ sym g.gives, t.1)

pub link_end_call_one : (link out work : List ℕ) (states frames changes place r s : ℕ) (l₁ o₁ w₁ l₂ o₂ w₂ : List ℕ) (x₀ x₁ x₂ p y₀ y₁ y₂ q : ℕ)
    → LinkEndCallSays link out work states frames changes place r l₁ o₁ w₁ x₀ x₁ x₂ p → LinkEndCallSays link out work states frames changes place s l₂ o₂ w₂ y₀ y₁ y₂ q
    → (r ≡ s) × (l₁ ≡ l₂) × (o₁ ≡ o₂) × (w₁ ≡ w₂) × (x₀ ≡ y₀) × (x₁ ≡ y₁) × (x₂ ≡ y₂) × (p ≡ q)
link_end_call_one link out work states frames changes place r s l₁ o₁ w₁ l₂ o₂ w₂ x₀ x₁ x₂ p y₀ y₁ y₂ q f g =
    let t = link_end_one link out work f.answer g.answer l₁ o₁ w₁ l₂ o₂ w₂ f.says g.says in
    let h = hands_job (answered f.answer) (answered g.answer) states frames changes place r s x₀ x₁ x₂ p y₀ y₁ y₂ q (ap answered t.0) f.gives g.gives in
    (h.0, t.1, t.2, t.3, h.1, h.2, h.3, h.4)

-- the calls of a store
pub settings_clear_call_one : (voices settings : List ℕ) (r s : ℕ) (v₁ s₁ v₂ s₂ : List ℕ) → SettingsClearCallSays voices settings r v₁ s₁ → SettingsClearCallSays voices settings s v₂ s₂ → (r ≡ s) × (v₁ ≡ v₂) × (s₁ ≡ s₂)
settings_clear_call_one voices settings r s v₁ s₁ v₂ s₂ f g =
    let t = clear_one voices settings f.answer g.answer v₁ s₁ v₂ s₂ f.says g.says in
    (f.gives ∙ ap refused t.0 ∙ sym g.gives, t.1, t.2)

pub settings-set-call-one : (voices settings : List ℕ) (voice : ℕ) (speed weight threshold : Float) (r s : ℕ) (v₁ s₁ v₂ s₂ : List ℕ)
    → SettingsSetCallSays voices settings voice speed weight threshold r v₁ s₁ → SettingsSetCallSays voices settings voice speed weight threshold s v₂ s₂ → (r ≡ s) × (v₁ ≡ v₂) × (s₁ ≡ s₂)
settings-set-call-one voices settings voice speed weight threshold r s v₁ s₁ v₂ s₂ f g =
    let t = set-one voices settings f.answer g.answer v₁ s₁ v₂ s₂ voice (bits_of speed weight threshold) f.says g.says in
    (f.gives ∙ ap refused t.0 ∙ sym g.gives, t.1, t.2)

pub settings_get_call_one : (voices settings : List ℕ) (voice : ℕ) (speed weight threshold : Float) (r s : ℕ) (x₀ x₁ x₂ y₀ y₁ y₂ : Float)
    → SettingsGetCallSays voices settings voice speed weight threshold r x₀ x₁ x₂ → SettingsGetCallSays voices settings voice speed weight threshold s y₀ y₁ y₂ → (r ≡ s) × (x₀ ≡ y₀) × (x₁ ≡ y₁) × (x₂ ≡ y₂)
settings_get_call_one voices settings voice speed weight threshold r s x₀ x₁ x₂ y₀ y₁ y₂ f g =
    let e : f.answer ≡ g.answer = get_one voices settings voice f.answer g.answer f.says g.says in
    let p = f.gives in
    let q = g.gives in
    (p.answers ∙ ap got_number e ∙ sym q.answers, p.first ∙ ap (λ a. handed_float a (λ s. s.speed) speed) e ∙ sym q.first, p.second ∙ ap (λ a. handed_float a (λ s. s.weight) weight) e ∙ sym q.second, p.third ∙ ap (λ a. handed_float a (λ s. s.threshold) threshold) e ∙ sym q.third)

pub settings_remove_call_one : (voices settings : List ℕ) (voice r s : ℕ) (v₁ s₁ v₂ s₂ : List ℕ) → SettingsRemoveCallSays voices settings voice r v₁ s₁ → SettingsRemoveCallSays voices settings voice s v₂ s₂ → (r ≡ s) × (v₁ ≡ v₂) × (s₁ ≡ s₂)
settings_remove_call_one voices settings voice r s v₁ s₁ v₂ s₂ f g =
    let t = remove_one voices settings f.answer g.answer v₁ s₁ v₂ s₂ voice f.says g.says in
    (f.gives ∙ ap refused t.0 ∙ sym g.gives, t.1, t.2)

pub settings-count-call-one : (voices : List ℕ) (held r s x y : ℕ) → SettingsCountCallSays voices held r x → SettingsCountCallSays voices held s y → (r ≡ s) × (x ≡ y)
settings-count-call-one voices held r s x y f g = hands_one (counted f.answer) (counted g.answer) held r s x y (ap counted (count-one voices f.answer g.answer f.says g.says)) f.gives g.gives

pub settings-read-call-one : (voices settings bytes : List ℕ) (r s : ℕ) (v₁ s₁ v₂ s₂ : List ℕ) → SettingsReadCallSays voices settings bytes r v₁ s₁ → SettingsReadCallSays voices settings bytes s v₂ s₂ → (r ≡ s) × (v₁ ≡ v₂) × (s₁ ≡ s₂)
settings-read-call-one voices settings bytes r s v₁ s₁ v₂ s₂ f g =
    let t = read_one voices settings f.answer g.answer v₁ s₁ v₂ s₂ bytes f.says g.says in
    (f.gives ∙ ap refused t.0 ∙ sym g.gives, t.1, t.2)

pub settings_write_call_one : (voices settings out : List ℕ) (written r s : ℕ) (o₁ o₂ : List ℕ) (x y : ℕ) → SettingsWriteCallSays voices settings out written r o₁ x → SettingsWriteCallSays voices settings out written s o₂ y → (r ≡ s) × (o₁ ≡ o₂) × (x ≡ y)
settings_write_call_one voices settings out written r s o₁ o₂ x y f g =
    let t = write_one voices settings out f.answer g.answer o₁ o₂ f.says g.says in
    let h = hands_one (counted f.answer) (counted g.answer) written r s x y (ap counted t.0) f.gives g.gives in
    (h.0, t.1, h.1)

module _ (ws : List ℕ) (nstate : ℕ) (ds : List ℕ) (r s : ℕ) where
  pub words-spans-call-one : (out o₁ o₂ : List ℕ) → WordsSpansCallSays ws nstate ds out r o₁ → WordsSpansCallSays ws nstate ds out s o₂ → (r ≡ s) × (o₁ ≡ o₂)
  words-spans-call-one out o₁ o₂ f g =
      let t = words.spans-one ws nstate ds out f.answer g.answer o₁ o₂ f.says g.says in
      (f.gives ∙ ap (λ c. (counted_as c).number) t.0 ∙ sym g.gives, t.1)

  pub words_milliseconds_call_one : (out o₁ o₂ : List ℕ) → WordsMillisecondsCallSays ws nstate ds out r o₁ → WordsMillisecondsCallSays ws nstate ds out s o₂ → (r ≡ s) × (o₁ ≡ o₂)
  words_milliseconds_call_one out o₁ o₂ f g =
      let t = words.milliseconds_one ws nstate ds out f.answer g.answer o₁ o₂ f.says g.says in
      (f.gives ∙ ap (λ c. (counted_as c).number) t.0 ∙ sym g.gives, t.1)

  pub words-at-call-one : (frame word x y : ℕ) → WordsAtCallSays ws nstate ds frame word r x → WordsAtCallSays ws nstate ds frame word s y → (r ≡ s) × (x ≡ y)
  words-at-call-one frame word x y f g =
      hands_one (counted_as f.answer) (counted_as g.answer) word r s x y (ap counted_as (words.at_one ws nstate ds frame f.answer g.answer f.says g.says)) f.gives g.gives

  pub words_excerpt_call_one : (trajectory : List Float) (v word first count x₀ x₁ y₀ y₁ : ℕ) → WordsExcerptCallSays ws nstate ds trajectory v word first count r x₀ x₁ → WordsExcerptCallSays ws nstate ds trajectory v word first count s y₀ y₁ → (r ≡ s) × (x₀ ≡ y₀) × (x₁ ≡ y₁)
  words_excerpt_call_one trajectory v word first count x₀ x₁ y₀ y₁ f g =
      hands_two (parted_as f.answer) (parted_as g.answer) first count r s x₀ x₁ y₀ y₁ (ap parted_as (words.part-one ws nstate ds trajectory v word f.answer g.answer f.says g.says)) f.gives g.gives

  pub words_write_call_one : (out : List ℕ) (written : ℕ) (o₁ o₂ : List ℕ) (x y : ℕ) → WordsWriteCallSays ws nstate ds out written r o₁ x → WordsWriteCallSays ws nstate ds out written s o₂ y → (r ≡ s) × (o₁ ≡ o₂) × (x ≡ y)
  words_write_call_one out written o₁ o₂ x y f g =
      let t = words.write_one ws nstate ds out f.answer g.answer o₁ o₂ f.says g.says in
      let h = hands_one (counted_as f.answer) (counted_as g.answer) written r s x y (ap counted_as t.0) f.gives g.gives in
      (h.0, t.1, h.1)

pub words-read-call-one : (bytes spans : List ℕ) (words' r s : ℕ) (o₁ o₂ : List ℕ) (x y : ℕ) → WordsReadCallSays bytes spans words' r o₁ x → WordsReadCallSays bytes spans words' s o₂ y → (r ≡ s) × (o₁ ≡ o₂) × (x ≡ y)
words-read-call-one bytes spans words' r s o₁ o₂ x y f g =
    let t = words.read_one bytes spans f.answer g.answer o₁ o₂ f.says g.says in
    let h = hands_one (counted_as f.answer) (counted_as g.answer) words' r s x y (ap counted_as t.0) f.gives g.gives in
    (h.0, t.1, h.1)

-- a call that changes a table, by the number of its answer
table-call-one : (x y : Result (Unit {0}) Refusal) (r s : ℕ) → x ≡ y → r ≡ refused x → s ≡ refused y → r ≡ s
table-call-one x y r s e f g = f ∙ ap refused e ∙ sym g

module _ (t t₁ t₂ : Table) (r s : ℕ) where
  pub table-start-call-one : (common : ℕ) (ws : List ℕ) (cs : List Float) → TableStartCallSays t common ws cs r t₁ → TableStartCallSays t common ws cs s t₂ → (r ≡ s) × (t₁ ≡ t₂)
  table-start-call-one common ws cs f g = let h = houses.start-one t t₁ t₂ f.answer g.answer common ws cs f.says g.says in (table-call-one f.answer g.answer r s h.0 f.gives g.gives, h.1)

  pub table-set-call-one : (house p : ℕ) (ws : List ℕ) (cs : List Float) → TableSetCallSays t house p ws cs r t₁ → TableSetCallSays t house p ws cs s t₂ → (r ≡ s) × (t₁ ≡ t₂)
  table-set-call-one house p ws cs f g = let h = houses.set-one t t₁ t₂ f.answer g.answer house p ws cs f.says g.says in (table-call-one f.answer g.answer r s h.0 f.gives g.gives, h.1)

  pub table_clear_call_one : (house p : ℕ) → TableClearCallSays t house p r t₁ → TableClearCallSays t house p s t₂ → (r ≡ s) × (t₁ ≡ t₂)
  table_clear_call_one house p f g = let h = houses.clear_one t t₁ t₂ f.answer g.answer house p f.says g.says in (table-call-one f.answer g.answer r s h.0 f.gives g.gives, h.1)

pub table_use_call_one : (t : Table) (house p first count : ℕ) (ws w₁ w₂ : List ℕ) (r s x₀ x₁ y₀ y₁ : ℕ) → TableUseCallSays t house p first ws count r x₀ w₁ x₁ → TableUseCallSays t house p first ws count s y₀ w₂ y₁ → (r ≡ s) × (x₀ ≡ y₀) × (w₁ ≡ w₂) × (x₁ ≡ y₁)
table_use_call_one t house p first count ws w₁ w₂ r s x₀ x₁ y₀ y₁ f g =
    let h = houses.use_one t house p ws w₁ w₂ f.answer g.answer f.says g.says in
    let k = hands_two (spanned f.answer) (spanned g.answer) first count r s x₀ x₁ y₀ y₁ (ap spanned h.0) f.gives g.gives in
    (k.0, k.1, h.1, k.2)

pub table-free-call-one : (t : Table) (house free r s x y : ℕ) → TableFreeCallSays t house free r x → TableFreeCallSays t house free s y → (r ≡ s) × (x ≡ y)
table-free-call-one t house free r s x y f g = hands_one (counted f.answer) (counted g.answer) free r s x y (ap counted (houses.free_one t house f.answer g.answer f.says g.says)) f.gives g.gives
