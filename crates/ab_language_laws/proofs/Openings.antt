-- With what a command begins can be told.
use Rattle.std.proofs.Common.{◌≡◌, ℕ, List, Option, Some, None, refl}
use Rattle.ab_grammar.specs.declared.head.Head.{Head}
use Rattle.ab_grammar.specs.declared.head.Head.TheVariants as head
use Rattle.ab_grammar.specs.declared.head.ProofHead.{ProofHead}
use Rattle.ab_grammar.specs.declared.head.ProofHead.TheVariants as proof
use Rattle.ab_grammar.specs.declared.Quant.TheVariants.{Exists}
use Rattle.ab_grammar.specs.Token.{Token, word, quantifier, other}
use Rattle.ab_grammar.specs.Token as token
use Rattle.ab_grammar.specs.CommandTable.{listed, command_words, proof_words, Opens, opens, opens_back, opens_reset, OpensProof, opens_proof, opens_exists, ShowsLabel, shows_label}
use Rattle.ab_grammar.proofs.WholeCommands.{is_label}

-- what a token says of the command that it begins
pub data Opening (k : Token) : Type 0 where
  opens_plain : (h : Head) → Opens h k tt → Opening k
  opens_proof_row : (h : ProofHead) → OpensProof h k tt → Opening k
  opens_label : (x : List ℕ) → ShowsLabel k x → Opening k
  opens_nothing : ((h : Head) → Opens h k tt → ⊥) → ((h : ProofHead) → OpensProof h k tt → ⊥) → ((x : List ℕ) → ShowsLabel k x → ⊥) → Opening k

by_tables : (x : List ℕ) (p : ℕ) (o : Option Head) → listed command_words x ≡ o → (q : Option ProofHead) → listed proof_words x ≡ q → Opening (word x p)
by_tables x p (Some h) a q b = opens_plain h (opens x p a)
by_tables x p None a (Some h) b = opens_proof_row h (opens_proof x p b)
by_tables x p None a None b = opens_label x (is_label x p a b)

-- the tokens with which some command begins, some proof command, and those that are words
abbrev PlainToken : Token → Type 0
PlainToken (word x p) = Unit {0}
PlainToken (other token.back) = Unit {0}
PlainToken (other token.reset) = Unit {0}
PlainToken k = ⊥

abbrev ProofToken : Token → Type 0
ProofToken (word x p) = Unit {0}
ProofToken (quantifier Exists p) = Unit {0}
ProofToken k = ⊥

abbrev LabelToken : Token → Type 0
LabelToken (word x p) = Unit {0}
LabelToken k = ⊥

plain_token : (h : Head) (k : Token) → Opens h k tt → PlainToken k
plain_token _ _ (opens x p e) = tt
plain_token _ _ opens_back = tt
plain_token _ _ opens_reset = tt

proof_token : (h : ProofHead) (k : Token) → OpensProof h k tt → ProofToken k
proof_token _ _ (opens_proof x p e) = tt
proof_token _ _ (opens_exists p) = tt

label_token : (x : List ℕ) (k : Token) → ShowsLabel k x → LabelToken k
label_token _ _ (shows_label x p n) = tt

pub opening : (k : Token) → Opening k
opening (word x p) = by_tables x p (listed command_words x) refl (listed proof_words x) refl
opening (quantifier Exists p) = opens_proof_row proof.Exists (opens_exists p)
opening (other token.back) = opens_plain head.Back opens_back
opening (other token.reset) = opens_plain head.Reset opens_reset
opening k = opens_nothing (λ h o. plain_token h k o) (λ h o. proof_token h k o) (λ x s. label_token x k s)
