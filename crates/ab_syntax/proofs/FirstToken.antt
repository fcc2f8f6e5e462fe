-- The first token of a command.
use Rattle.std.proofs.Common.{◌≡◌, ℕ, List, refl}
use Rattle.ab_grammar.specs.declared.head.Head.{Head}
use Rattle.ab_grammar.specs.declared.head.ProofHead.{ProofHead}
use Rattle.ab_grammar.specs.Token.{Token}
use Rattle.ab_grammar.specs.CommandTable.{Opens, opens, opens_back, opens_reset, OpensProof, opens_proof, opens_exists, ShowsLabel, shows_label}
use Rattle.ab_expressions.specs.declared.kind.Kind.TheVariants as kind
use Rattle.ab_expressions.specs.Kinds.{kind_of}
use Rattle.ab_syntax.specs.Openings.{BeginsNothing}

module _ (k : Token) (not_word : kind_of k ≡ kind.Word → ⊥) (not_back : kind_of k ≡ kind.Back → ⊥) (not_reset : kind_of k ≡ kind.Reset → ⊥) (not_exists : kind_of k ≡ kind.Exists → ⊥) where
  no_plain_at : (j : Token) → k ≡ j → (h : Head) → Opens h j tt → ⊥
  no_plain_at _ e h (opens x p d) = let f : kind_of k ≡ kind.Word = cc in not_word f
  no_plain_at _ e _ opens_back = let f : kind_of k ≡ kind.Back = cc in not_back f
  no_plain_at _ e _ opens_reset = let f : kind_of k ≡ kind.Reset = cc in not_reset f

  no_proof_at : (j : Token) → k ≡ j → (h : ProofHead) → OpensProof h j tt → ⊥
  no_proof_at _ e h (opens_proof x p d) = let f : kind_of k ≡ kind.Word = cc in not_word f
  no_proof_at _ e _ (opens_exists p) = let f : kind_of k ≡ kind.Exists = cc in not_exists f

  no_label_at : (j : Token) → k ≡ j → (x : List ℕ) → ShowsLabel j x → ⊥
  no_label_at _ e _ (shows_label x p n) = let f : kind_of k ≡ kind.Word = cc in not_word f

  pub begins_nothing : BeginsNothing k
  begins_nothing = record { no_plain = no_plain_at k refl; no_proof = no_proof_at k refl; no_label = no_label_at k refl }
