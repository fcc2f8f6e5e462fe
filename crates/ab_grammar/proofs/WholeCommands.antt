-- A command, from its first token to its full stop.
use Rattle.std.proofs.Common.{◌≡◌, ℕ, List, ◌∷◌, Some, None, IsTrue, refl, sym, ◌∙◌}
use Rattle.ab_grammar.specs.declared.head.Head.{Head}
use Rattle.ab_grammar.specs.declared.head.ProofHead.{ProofHead}
use Rattle.ab_grammar.specs.Token.{Token, word, other, stop, colon}
use Rattle.ab_grammar.specs.Language.{Key}
use Rattle.ab_grammar.proofs.Following.{Follow, Anything, Followed, BeforeStop}
use Rattle.ab_grammar.proofs.Reading.{ReadsOff, Cause, RefusesAt}
use Rattle.ab_grammar.specs.CommandTrees as tree
use Rattle.ab_grammar.specs.CommandForms.{One, ◌▸◌, ◌◂◌}
use Rattle.ab_grammar.specs.CommandTable.{Row, ProofRow, Sign, listed, command_words, proof_words, Opens, opens, OpensProof, opens_proof, takes_label, BeginsCommand, begins_plain, begins_proof, ShowsLabel, shows_label, LabelledForm, CommandForm, CommandText}
use Rattle.ab_grammar.proofs.Choosing.{one_reads, key_example}
use Rattle.ab_grammar.proofs.Continuing.{Continues, onwards, behind}
use Rattle.ab_grammar.proofs.Shown.{one_label}
use Rattle.ab_grammar.proofs.Rows.{TwoParts, two_parts, key_in_front}
use Rattle.ab_grammar.proofs.Heads.{plain_command, unlabelled_command, labelled_command, behind_label, labelled_example, Labelled}

module _ (k : Token) (ns : List Token) where
  pub plain_row : (h : Head) → Opens h k tt → Continues (Row h) CommandForm BeforeStop (λ c. c) ns (k ∷ ns)
  plain_row h o = onwards (behind (λ u c. c) (One (Opens h)) (Row h) Anything BeforeStop (λ r f. tt) (k ∷ ns) ns tt (one_reads (Opens h) k tt ns o (λ b s. refl))) (plain_command k (k ∷ ns) refl h o)

  opened_proof : (h : ProofHead) → OpensProof h k tt → Continues (ProofRow h) (One (OpensProof h) ▸ ProofRow h) BeforeStop (λ c. c) ns (k ∷ ns)
  opened_proof h o = behind (λ u c. c) (One (OpensProof h)) (ProofRow h) Anything BeforeStop (λ r f. tt) (k ∷ ns) ns tt (one_reads (OpensProof h) k tt ns o (λ b s. refl))

  pub proof_row : (h : ProofHead) → OpensProof h k tt → Continues (ProofRow h) CommandForm BeforeStop (λ c. tree.in_proof None c) ns (k ∷ ns)
  proof_row h o = onwards (opened_proof h o) (unlabelled_command k (k ∷ ns) refl h o)

  pub labelled_row : (h : ProofHead) → OpensProof h k tt → IsTrue (takes_label h) → Continues (ProofRow h) LabelledForm BeforeStop (λ c. c) ns (k ∷ ns)
  labelled_row h o t = onwards (opened_proof h o) (behind_label k (k ∷ ns) refl h o t)

-- a label and its colon
label_and : TwoParts (One ShowsLabel) Anything (Key colon) (One ShowsLabel ◂ Key colon) Anything (λ x u. x)
label_and = two_parts (λ x (u : Unit {0}). x) (λ x. x) (One ShowsLabel) Anything (Key colon) (One ShowsLabel ◂ Key colon) Anything (λ r f. tt) (key_example colon) (λ w d g. g) (λ w d g. (d, g, refl))

with_label : TwoParts (One ShowsLabel ◂ Key colon) Anything LabelledForm Labelled BeforeStop (λ x c. (x, c))
with_label = two_parts (λ x c. (x, c)) (λ d. d) (One ShowsLabel ◂ Key colon) Anything LabelledForm Labelled BeforeStop (λ r f. tt) labelled_example (λ w d g. g) (λ w d g. (d, g, refl))

module _ (k : Token) (ns : List Token) (x : List ℕ) (s : ShowsLabel k x) where
  label_read : ReadsOff (One ShowsLabel) Anything (k ∷ ns) x ns
  label_read = one_reads ShowsLabel k x ns s (λ b t. one_label k x b s t)

  pub colon_refused : (c : Cause) (rest : List Token) → RefusesAt (Key colon) Anything c ns rest → RefusesAt CommandForm BeforeStop c (k ∷ ns) rest
  colon_refused c rest r = (labelled_command k (k ∷ ns) refl x s).refuses c rest (with_label.first_refused (k ∷ ns) c rest ((label_and.first_read (k ∷ ns) ns x label_read).refuses c rest r))

  pub label_row : (ms : List Token) → ReadsOff (Key colon) Anything ns tt ms → Continues LabelledForm CommandForm BeforeStop (λ c. tree.in_proof (Some x) c) ms (k ∷ ns)
  label_row ms r = onwards (with_label.first_read (k ∷ ns) ms x ((label_and.first_read (k ∷ ns) ns x label_read).reads tt ms r)) (labelled_command k (k ∷ ns) refl x s)

-- the full stop
stop_comes : (r : List Token) → Follow (Sign stop) Followed r → BeforeStop r
stop_comes r f = key_in_front (other stop) Followed r f

pub whole_command : TwoParts CommandForm BeforeStop (Sign stop) CommandText Followed (λ c u. c)
whole_command = two_parts (λ c (u : Unit {0}). c) (λ c. c) CommandForm BeforeStop (Sign stop) CommandText Followed stop_comes (key_example (other stop)) (λ w d g. g) (λ w d g. (d, g, refl))

-- Labels

label_word : (x : List ℕ) (p : ℕ) → listed command_words x ≡ None → listed proof_words x ≡ None → BeginsCommand (word x p) → ⊥
label_word x p a b (begins_plain h o) = no_plain h o
  where
    no_plain : (h : Head) → Opens h (word x p) tt → ⊥
    no_plain h (opens y q e) = let bad : None ≡ Some h = sym a ∙ e in absurd (cc)
label_word x p a b (begins_proof h o) = no_proof h o
  where
    no_proof : (h : ProofHead) → OpensProof h (word x p) tt → ⊥
    no_proof h (opens_proof y q e) = let bad : None ≡ Some h = sym b ∙ e in absurd (cc)

pub is_label : (x : List ℕ) (p : ℕ) → listed command_words x ≡ None → listed proof_words x ≡ None → ShowsLabel (word x p) x
is_label x p a b = shows_label x p (label_word x p a b)
