-- Refusals for what a row of the proof commands refuses, and for expressions that mean nothing.
use Rattle.std.specs.Prelude.{◌≡◌, ℕ, None}
use Rattle.ab_inference.specs.declared.fault.InferFault.{InferFault}
use Rattle.ab_inference.specs.declared.fault.InferFault.TheVariants as fault
use Rattle.ab_meaning.specs.Refusals as row
use Rattle.ab_declare.specs.declared.refusal.Place.{Place}
use Rattle.ab_declare.specs.declared.refusal.Refusal.{Refusal}
use Rattle.ab_declare.specs.declared.refusal.Refusal.TheVariants.{Unknown, Clash, TypeClash, Untyped, NoHypothesis, WrongShape, Mark, NoMatch, NotPattern, Unresolved, NamesSpent}

-- a place in the command itself
abbrev pub here : ℕ → Place
here n = record { at = n; file = None }

abbrev pub refusal_for : row.Refusal → Refusal
refusal_for (row.unknown x) = Unknown x None
refusal_for (row.clash x) = Clash x None
refusal_for (row.type_clash p) = TypeClash (here p)
refusal_for (row.untyped p) = Untyped (here p)
refusal_for (row.no_hypothesis x) = NoHypothesis x
refusal_for row.wrong_shape = WrongShape
refusal_for row.mark = Mark
refusal_for row.no_match = NoMatch
refusal_for (row.not_pattern i) = NotPattern i
refusal_for (row.unresolved x) = Unresolved x
refusal_for row.names_spent = NamesSpent

-- the refusal of an expression with this fault; want of memory is none
abbrev pub RefusedFor : InferFault → Refusal → Type 0
RefusedFor (fault.Unknown x) r = r ≡ Unknown x None
RefusedFor (fault.TypeClash p) r = r ≡ TypeClash (here p)
RefusedFor (fault.Untyped p) r = r ≡ Untyped (here p)
RefusedFor (fault.Memory m) r = ⊥
