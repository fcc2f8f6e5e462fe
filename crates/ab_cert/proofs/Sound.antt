-- What the grammar's tables and limits are fit for.
use Rattle.std.proofs.Common.{◌≡◌, ◌≤◌, ◌<◌, ◌^◌, ◌⊎◌, true, [], refl, inl, inr, arith}
use Rattle.ab_cert.specs.declared.part.Part.{Part}
use Rattle.ab_cert.specs.Grammar.{Lead, words, names, mark_or_name, numbers, lead_of, is_front}

abbrev pub IsSound : Lead → Type 0
IsSound (words rows) = is_front rows [] ≡ true
IsSound (names after) = Unit {0}
IsSound (mark_or_name b mark) = (b ≡ 45) ⊎ (b ≡ 62)
IsSound (numbers limit after) = (0 < limit) × (limit ≤ 10 ^ 30)

sound64 : (0 < 2 ^ 64) × (2 ^ 64 ≤ 10 ^ 30)
sound64 = (omega arith, omega arith)

sound30 : (0 < 10 ^ 30) × (10 ^ 30 ≤ 10 ^ 30)
sound30 = (omega arith, omega arith)

pub sound : (s : Part) → IsSound (lead_of s)
sound Part.Whole = refl
sound Part.Version = refl
sound Part.Items = refl
sound Part.Clauses = sound64
sound Part.Proof = sound64
sound Part.Step = refl
sound Part.Clause = refl
sound Part.Name = tt
sound Part.Label = inl refl
sound Part.Flag = refl
sound Part.Letter = refl
sound Part.Place = sound64
sound Part.Long = sound30
sound Part.Small = (omega arith, omega arith)
sound Part.Type = inr refl
sound Part.Term = refl
sound Part.Head = refl
sound Part.Sign = refl
sound Part.Variable = tt
sound Part.Replace = sound30
sound Part.Args = sound64
sound Part.Names = sound64
sound Part.Labels = sound64
sound Part.Numbers = sound64
sound Part.Variables = sound64
sound Part.Replaces = sound64
