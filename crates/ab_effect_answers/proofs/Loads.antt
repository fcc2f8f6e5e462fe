-- Each load has an answer, whatever is told of the files and planned of the calls.
use Rattle.std.specs.Prelude.{IfSome}
use Rattle.std.specs.FinMap.{get}
use Rattle.std.proofs.Common.{◌≡◌, ◌≢◌, ◌⊎◌, inl, inr, ℕ, ◌+◌, ◌<◌, ◌≤◌, List, length, Option, Some, None, option_map, ◌↔◌, refl, arith}
use Rattle.std.proofs.lemmas.Bool.{cases_lt}
use Rattle.ab_io.specs.Loads.{FileMap, Answer, loaded, missing, failed, too_long}
use Rattle.ab_io.specs.Plan.{Plan, IsPlanned, after_call}
use Rattle.ab_sigmod.specs.FileLoads.{FilesSeen, longest, Tells, Counted, IsLoad}
use Rattle.ab_existence.specs.Certainty.{IsCertain}
use Rattle.ab_existence.proofs.Certain.{sure, and_also, there_or_not}

-- what is told where the file holds this, if there is one
told_of : (file : Option (List ℕ)) → (a : Answer) × Tells a file × (a ≢ failed)
told_of None = (missing, refl, λ e. absurd (cc))
told_of (Some bytes) = by_length (cases_lt longest (length bytes))
  where
    by_length : (longest < length bytes) ⊎ (length bytes ≤ longest) → (a : Answer) × Tells a (Some bytes) × (a ≢ failed)
    by_length (inl long) = (too_long, long, λ e. absurd (cc))
    by_length (inr short) = (loaded bytes, (refl, short), λ e. absurd (cc))

told_by : (files : Option FileMap) (x : List ℕ) → (a : Answer) × IfSome files (λ m. Tells a (get m x)) × (a ≢ failed)
told_by None x = (missing, tt, λ e. absurd (cc))
told_by (Some m) x = told_of (get m x)

none_told : (files : Option FileMap) (x : List ℕ) → IfSome files (λ m. Tells failed (get m x))
none_told None x = tt
none_told (Some m) x = tt

-- every count rises
abbrev after : FilesSeen → FilesSeen
after s = record { files = s.files; plan = option_map after_call s.plan; faults = s.faults + 1; misses = s.misses + 1; long_files = s.long_files + 1 }

all_counted : (a : Answer) (s : FilesSeen) → Counted a s (after s)
all_counted (loaded bytes) s = tt
all_counted missing s = inl (omega arith)
all_counted failed s = inl (omega arith)
all_counted too_long s = inl (omega arith)

abbrev pub AnswersLoad : FilesSeen → List ℕ → Type 0
AnswersLoad s x = (a : Answer) × (t : FilesSeen) × IsLoad s (record { name = x; answer = a }) t

module _ (s : FilesSeen) (x : List ℕ) where
  answers : (a : Answer) → IfSome s.files (λ m. Tells a (get m x)) → IfSome s.plan (λ p. (a ≡ failed) ↔ IsPlanned p) → AnswersLoad s x
  answers a told planned = (
    a,
    after s,
    record {
      files_stay = refl;
      called = refl;
      told = told;
      planned = planned;
      counted = all_counted a s;
      faults_never_fall = omega arith;
      misses_never_fall = omega arith;
      long_files_never_fall = omega arith;
    },
  )

  by_plan : (plan : Option Plan) → IsCertain ((a : Answer) × IfSome s.files (λ m. Tells a (get m x)) × IfSome plan (λ p. (a ≡ failed) ↔ IsPlanned p))
  by_plan None = let t = told_by s.files x in sure (t.0, t.1, tt)
  by_plan (Some p) =
      and_also (there_or_not (IsPlanned p))
      (λ planned. elim planned [
        | inl is ↦ (failed, none_told s.files x, ((λ e. is), (λ i. refl)))
        | inr isnt ↦ let t = told_by s.files x in (t.0, t.1, ((λ e. absurd (t.2 e)), (λ i. absurd (isnt i))))
      ])

  pub load_there : IsCertain (AnswersLoad s x)
  load_there = and_also (by_plan s.plan) (λ a. answers a.0 a.1 a.2)
