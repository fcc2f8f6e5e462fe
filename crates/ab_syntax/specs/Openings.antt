-- What the first token of a command says of it.
use Rattle.ab_grammar.specs.declared.head.Head.{Head}
use Rattle.ab_grammar.specs.declared.head.ProofHead.{ProofHead}
use Rattle.ab_grammar.specs.Token.{Token}
use Rattle.std.specs.Prelude.{◌≡◌, ℕ, List, Some}
use Rattle.ab_grammar.proofs.Following.{first}
use Rattle.ab_grammar.specs.CommandTable.{Opens, OpensProof, ShowsLabel}
use Rattle.ab_syntax.specs.declared.command_heads.Opening.{Opening}
use Rattle.ab_syntax.specs.declared.command_heads.Opening.TheVariants.{Plain, Proof, Label, Nothing}

-- no command begins with the token
pub record BeginsNothing (k : Token) : Type 0 where
  pub no_plain : (h : Head) → Opens h k tt → ⊥
  pub no_proof : (h : ProofHead) → OpensProof h k tt → ⊥
  pub no_label : (x : List ℕ) → ShowsLabel k x → ⊥

-- what the token, which is written so, says of the command that it begins
abbrev pub IsOpening : Token → List ℕ → Opening → Type 0
IsOpening k w (Plain h) = Opens h k tt
IsOpening k w (Proof h) = OpensProof h k tt
IsOpening k w Label = ShowsLabel k w
IsOpening k w Nothing = BeginsNothing k

-- what the next token says of the command that it begins, where there is one
abbrev pub IsOpeningAt : List Token → Opening → Type 0
IsOpeningAt ks (Plain h) = (k : Token) × (first ks ≡ Some k) × Opens h k tt
IsOpeningAt ks (Proof h) = (k : Token) × (first ks ≡ Some k) × OpensProof h k tt
IsOpeningAt ks Label = (k : Token) × (x : List ℕ) × (first ks ≡ Some k) × ShowsLabel k x
IsOpeningAt ks Nothing = (k : Token) → first ks ≡ Some k → BeginsNothing k
