-- Records of what is read, part by part.
use Rattle.std.proofs.Common.{ℕ, List}
use Rattle.ab_cert.specs.Plain.{Ty, Term, Variable, Replace, Clause}

abbrev pub variable : List ℕ × Ty → Variable
variable q = record { name = q.0; ty = q.1 }

abbrev pub replace : ℕ → Ty × Term → Replace
replace k q = record { number = k; ty = q.0; to = q.1 }

abbrev pub clause : List Variable × (Term × Term) → Clause
clause q = record { variables = q.0; head = q.1.0; body = q.1.1 }
