-- A row that the first token chooses, read from that token on.
use Rattle.std.proofs.Common.{◌≡◌, ℕ, List, ◌∷◌, Some, None, IsTrue, refl, sym, ◌∙◌, subst}
use Rattle.ab_grammar.specs.declared.head.Head.{Head}
use Rattle.ab_grammar.specs.declared.head.ProofHead.{ProofHead}
use Rattle.ab_grammar.specs.Token.{Token, colon}
use Rattle.ab_grammar.proofs.Following.{first, Anything, BeforeStop}
use Rattle.ab_grammar.specs.Language.{Key}
use Rattle.ab_grammar.proofs.Reading.{ReadsOff, StopsAt, ungrammatical, too_nested}
use Rattle.ab_grammar.specs.CommandTrees as tree
use Rattle.ab_grammar.specs.CommandTable.{Row, ProofRow, Opens, OpensProof, ShowsLabel, shows_label, takes_label, LabelledForm, CommandForm}
use Rattle.ab_grammar.proofs.Continuing.{Continues}
use Rattle.ab_grammar.proofs.Heads.{one_proof_head, no_command, no_labelled, plain_no_proof, proof_no_label}
use Rattle.ab_grammar.proofs.WholeCommands.{plain_row, proof_row, labelled_row, label_row, colon_refused}
use Rattle.ab_syntax.specs.declared.command_heads.Opening.{Opening}
use Rattle.ab_syntax.specs.declared.command_heads.Opening.TheVariants.{Plain, Proof, Label, Nothing}
use Rattle.ab_expressions.specs.declared.located_tokens.Seen.{Seen}
use Rattle.ab_expressions.specs.declared.stop.Stop.{Stop}
use Rattle.ab_expressions.specs.declared.stop.Stop.TheVariants.{Syntax, TooNested, Memory}
use Rattle.ab_expressions.specs.Kinds.{kind_of, IsWordKind}
use Rattle.ab_syntax.specs.Openings.{BeginsNothing, IsOpening, IsOpeningAt}
use Rattle.ab_expressions.specs.Reader.{seen, Refused}
use Rattle.ab_expressions.proofs.Meanings.{kind_meant}

label_kind : (k : Token) (x : List ℕ) → ShowsLabel k x → IsWordKind (kind_of k)
label_kind _ _ (shows_label x p n) = tt

-- a label is a word
pub label_word : (s : Seen) (x : List ℕ) → ShowsLabel (seen s) x → IsWordKind s.kind
label_word s x l = subst IsWordKind (kind_meant s.kind s.written.now s.place) (label_kind (seen s) x l)

-- what the next token says
pub opens_at : (ks : List Token) (k : Token) (x : List ℕ) (r : Opening) → first ks ≡ Some k → IsOpening k x r → IsOpeningAt ks r
opens_at ks k x (Plain h) e o = (k, e, o)
opens_at ks k x (Proof h) e o = (k, e, o)
opens_at ks k x Label e o = (k, x, e, o)
opens_at ks k x Nothing e o = λ j f. let same : k ≡ j = (let both = sym e ∙ f in cc) in subst BeginsNothing same o

-- no command begins
pub nothing_chosen : (ks : List Token) → ((k : Token) → first ks ≡ Some k → BeginsNothing k) → StopsAt CommandForm BeforeStop ks ks
nothing_chosen ks n = no_command ks (λ h k a e o. (n k e).no_plain h o) (λ h k a e o. (n k e).no_proof h o) (λ k x e o. (n k e).no_label x o)

-- no proof command that takes a label begins
pub none_labelled : (ks : List Token) (r : Opening) → IsOpeningAt ks r → ((h : ProofHead) → r ≡ Proof h → IsTrue (takes_label h) → ⊥) → StopsAt LabelledForm BeforeStop ks ks
none_labelled ks (Plain h) q n = no_labelled ks (λ k j e o t. let both = sym q.1 ∙ e in let same : k ≡ q.0 = cc in plain_no_proof h j q.0 q.2 (subst (λ (i : Token). OpensProof j i tt) same o))
none_labelled ks (Proof h) q n = no_labelled ks (λ k j e o t.
    let both = sym q.1 ∙ e in
    let same : k ≡ q.0 = cc in
    let one : j ≡ h = one_proof_head j h q.0 (subst (λ (i : Token). OpensProof j i tt) same o) q.2 in
    n h refl (subst (λ (i : ProofHead). IsTrue (takes_label i)) one t))
none_labelled ks Label q n = no_labelled ks (λ k j e o t. let both = sym q.2 ∙ e in let same : k ≡ q.0 = cc in proof_no_label j q.0 q.1 q.3 (subst (λ (i : Token). OpensProof j i tt) same o))
none_labelled ks Nothing q n = no_labelled ks (λ k j e o t. (q k e).no_proof j o)

module _ (ks ns : List Token) (k : Token) where
  pub plain_from : (h : Head) → ks ≡ k ∷ ns → Opens h k tt → Continues (Row h) CommandForm BeforeStop (λ c. c) ns ks
  plain_from h e o = subst (λ (w : List Token). Continues (Row h) CommandForm BeforeStop (λ c. c) ns w) (sym e) (plain_row k ns h o)

  pub proof_from : (h : ProofHead) → ks ≡ k ∷ ns → OpensProof h k tt → Continues (ProofRow h) CommandForm BeforeStop (λ c. tree.in_proof None c) ns ks
  proof_from h e o = subst (λ (w : List Token). Continues (ProofRow h) CommandForm BeforeStop (λ c. tree.in_proof None c) ns w) (sym e) (proof_row k ns h o)

  pub labelled_from : (h : ProofHead) → ks ≡ k ∷ ns → OpensProof h k tt → IsTrue (takes_label h) → Continues (ProofRow h) LabelledForm BeforeStop (λ c. c) ns ks
  labelled_from h e o t = subst (λ (w : List Token). Continues (ProofRow h) LabelledForm BeforeStop (λ c. c) ns w) (sym e) (labelled_row k ns h o t)

  module _ (x : List ℕ) (e : ks ≡ k ∷ ns) (l : ShowsLabel k x) where
    pub no_colon_from : (s : Stop) (ms : List Token) → Refused (Key colon) Anything s ns ms → Refused CommandForm BeforeStop s ks ms
    no_colon_from Syntax ms r = subst (λ (w : List Token). Refused CommandForm BeforeStop Syntax w ms) (sym e) (colon_refused k ns x l ungrammatical ms r)
    no_colon_from TooNested ms r = subst (λ (w : List Token). Refused CommandForm BeforeStop TooNested w ms) (sym e) (colon_refused k ns x l too_nested ms r)
    no_colon_from (Memory m) ms r = tt

    pub label_from : (ms : List Token) → ReadsOff (Key colon) Anything ns tt ms → Continues LabelledForm CommandForm BeforeStop (λ c. tree.in_proof (Some x) c) ms ks
    label_from ms r = subst (λ (w : List Token). Continues LabelledForm CommandForm BeforeStop (λ c. tree.in_proof (Some x) c) ms w) (sym e) (label_row k ns x l ms r)
