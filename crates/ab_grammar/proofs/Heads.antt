-- The first token of a command decides which row it is.
use Rattle.std.proofs.Common.{◌≡◌, ℕ, List, [], ◌∷◌, ◌++◌, Bool, true, false, cond, Option, Some, None, IsTrue, refl, sym, ◌∙◌, subst, codes, bytes_eq}
use Rattle.std.proofs.lemmas.Slice.Eq.{bytes_eq-Decides}
use Rattle.ab_grammar.specs.declared.head.Head.{Head}
use Rattle.ab_grammar.specs.declared.head.Head.TheVariants as head
use Rattle.ab_grammar.specs.declared.head.ProofHead.{ProofHead}
use Rattle.ab_grammar.specs.declared.head.ProofHead.TheVariants as proof
use Rattle.ab_grammar.specs.declared.Quant.TheVariants.{Exists}
use Rattle.ab_grammar.specs.Token.{Token, word, quantifier, other, colon, Other}
use Rattle.ab_grammar.specs.Token as token
use Rattle.ab_grammar.specs.Nesting.{Spot, lone}
use Rattle.ab_grammar.specs.Language.{tokens_of, Key}
use Rattle.ab_grammar.proofs.Reading.{StopsAt}
use Rattle.ab_grammar.specs.CommandTrees as tree
use Rattle.ab_grammar.specs.CommandForms.{One, one, nothing, Joined, joined, ◌▹◌, ◌▸◌, ◌◂◌}
use Rattle.ab_grammar.proofs.Following.{first, BeforeStop, Showing, Without}
use Rattle.ab_grammar.specs.CommandTable.{Row, ProofRow, command_words, proof_words, listed, Opens, opens, opens_back, opens_reset, OpensProof, opens_proof, opens_exists, takes_label, begins_plain, begins_proof, ShowsLabel, shows_label, LabelledForm, labelled_form, CommandForm, plain, unlabelled, labelled, quit_row, coinduction_row}
use Rattle.ab_grammar.proofs.Lists.{regroup}
use Rattle.ab_grammar.proofs.Joining.{Example}
use Rattle.ab_grammar.proofs.Choosing.{one_shown, shown_by, nothing_begins}
use Rattle.ab_grammar.proofs.Continuing.{Continues, chosen}

-- Tables

-- what holds of each row of a table
abbrev AllRows : {A : Type 0} → (List ℕ → A → Type 0) → List (List ℕ × A) → Type 0
AllRows P [] = Unit {0}
AllRows P (row ∷ rows) = P row.0 row.1 × AllRows P rows

by_test : {A : Type 0} (P : List ℕ → A → Type 0) (x y : List ℕ) (a v : A) (b : Bool) (o : Option A) → bytes_eq x y ≡ b → P y v → (o ≡ Some a → P x a) → cond b (Some v) o ≡ Some a → P x a
by_test P x y a v true o e p f h =
    let same : v ≡ a = cc in
    subst (λ z. P x z) same (subst (λ (z : List ℕ). P z v) (sym ((bytes_eq-Decides x y).0 e)) p)
by_test P x y a v false o e p f h = f h

in_table : {A : Type 0} (P : List ℕ → A → Type 0) (rows : List (List ℕ × A)) → AllRows P rows → (x : List ℕ) (a : A) → listed rows x ≡ Some a → P x a
in_table P [] h x a e = absurd (cc)
in_table P (row ∷ rows) h x a e = by_test P x (row.0) a (row.1) (bytes_eq x row.0) (listed rows x) refl (h.0) (in_table P rows (h.1) x a) e

-- no word opens a command and a proof command
two_tables : (x : List ℕ) (h : Head) → listed command_words x ≡ Some h → listed proof_words x ≡ None
two_tables = in_table (λ x h. listed proof_words x ≡ None) command_words (refl, (refl, (refl, (refl, (refl, (refl, (refl, (refl, (refl, (refl, (refl, (refl, tt))))))))))))

-- One row for a token

opens_word : (h j : Head) (x : List ℕ) (p : ℕ) → listed command_words x ≡ Some j → Opens h (word x p) tt → j ≡ h
opens_word h j x p e (opens y q f) = cc

opens_sign_back : (h : Head) → Opens h (other token.back) tt → head.Back ≡ h
opens_sign_back _ opens_back = refl

opens_sign_reset : (h : Head) → Opens h (other token.reset) tt → head.Reset ≡ h
opens_sign_reset _ opens_reset = refl

pub one_head : (j h : Head) (k : Token) → Opens j k tt → Opens h k tt → j ≡ h
one_head j h _ (opens x p e) o = opens_word h j x p e o
one_head _ h _ opens_back o = opens_sign_back h o
one_head _ h _ opens_reset o = opens_sign_reset h o

opens_proof_word : (h j : ProofHead) (x : List ℕ) (p : ℕ) → listed proof_words x ≡ Some j → OpensProof h (word x p) tt → j ≡ h
opens_proof_word h j x p e (opens_proof y q f) = cc

opens_proof_exists : (h : ProofHead) (p : ℕ) → OpensProof h (quantifier Exists p) tt → proof.Exists ≡ h
opens_proof_exists _ p (opens_exists q) = refl

pub one_proof_head : (j h : ProofHead) (k : Token) → OpensProof j k tt → OpensProof h k tt → j ≡ h
one_proof_head j h _ (opens_proof x p e) o = opens_proof_word h j x p e o
one_proof_head _ h _ (opens_exists p) o = opens_proof_exists h p o

-- one kind of row for a token

no_proof_word : (j : ProofHead) (x : List ℕ) (p : ℕ) → listed proof_words x ≡ None → OpensProof j (word x p) tt → ⊥
no_proof_word j x p e (opens_proof y q f) = let bad : None ≡ Some j = cc in absurd (cc)

no_proof_back : (j : ProofHead) (o : Other) → OpensProof j (other o) tt → ⊥
no_proof_back j o d = elim d [ ]

pub plain_no_proof : (h : Head) (j : ProofHead) (k : Token) → Opens h k tt → OpensProof j k tt → ⊥
plain_no_proof h j _ (opens x p e) o = no_proof_word j x p (two_tables x h e) o
plain_no_proof _ j _ opens_back o = no_proof_back j token.back o
plain_no_proof _ j _ opens_reset o = no_proof_back j token.reset o

pub plain_no_label : (h : Head) (k : Token) (x : List ℕ) → ShowsLabel k x → Opens h k tt → ⊥
plain_no_label h _ _ (shows_label x p n) o = n (begins_plain h o)

pub proof_no_label : (h : ProofHead) (k : Token) (x : List ℕ) → ShowsLabel k x → OpensProof h k tt → ⊥
proof_no_label h _ _ (shows_label x p n) o = n (begins_proof h o)

-- The shortest texts

pub command_example : Example CommandForm
command_example = record { spots = lone (word (codes "Quit") 0) ∷ []; value = tree.quit; text = plain head.Quit (joined (one (opens (codes "Quit") 0 refl)) (quit_row nothing)) }

pub labelled_example : Example LabelledForm
labelled_example = record { spots = lone (word (codes "coinduction") 0) ∷ []; value = tree.coinduction; text = labelled_form proof.Coinduction refl (joined (one (opens_proof (codes "coinduction") 0 refl)) (coinduction_row nothing)) }

-- The first token of a form

opened_by : {A B C : Type 0} (f : A → B → C) (Shows : Token → A → Type 0) (G : List Spot → B → Type 0) (w : List Spot) (c : C) (r : List Token) → Joined f (One Shows) G w c → (a : A) × Showing Shows a (tokens_of w ++ r)
opened_by f Shows G _ _ r (joined {us = us} {vs = vs} {a = a} g h) = (a, subst (λ (v : List Token). Showing Shows a v) (sym (regroup us vs r)) (one_shown Shows us a (tokens_of vs ++ r) g))

abbrev PlainRow : Head → List Spot → tree.Command → Type 0
PlainRow h = One (Opens h) ▸ Row h

abbrev OpenedProof : ProofHead → List Spot → tree.ProofCommand → Type 0
OpenedProof h = One (OpensProof h) ▸ ProofRow h

abbrev pub Labelled : List Spot → List ℕ × tree.ProofCommand → Type 0
Labelled = One ShowsLabel ◂ Key colon ▹ LabelledForm

plain_first : (h : Head) (w : List Spot) (c : tree.Command) (r : List Token) → PlainRow h w c → Showing (Opens h) tt (tokens_of w ++ r)
plain_first h w c r g = (opened_by (λ u c. c) (Opens h) (Row h) w c r g).1

proof_first : (h : ProofHead) (w : List Spot) (c : tree.ProofCommand) (r : List Token) → OpenedProof h w c → Showing (OpensProof h) tt (tokens_of w ++ r)
proof_first h w c r g = (opened_by (λ u c. c) (OpensProof h) (ProofRow h) w c r g).1

label_first : (w : List Spot) (c : List ℕ × tree.ProofCommand) (r : List Token) → Labelled w c → (x : List ℕ) × Showing ShowsLabel x (tokens_of w ++ r)
label_first _ _ r (joined {us = us} {vs = vs} {a = x} g h) =
    let q = opened_by (λ x u. x) ShowsLabel (Key colon) us x (tokens_of vs ++ r) g in
    (q.0, subst (λ (v : List Token). Showing ShowsLabel (q.0) v) (sym (regroup us vs r)) (q.1))

-- a first token decides
module _ (k : Token) (ks : List Token) (s : first ks ≡ Some k) where
  plain_shown : (j : Head) (w : List Spot) (c : tree.Command) (r : List Token) → PlainRow j w c → first (tokens_of w ++ r) ≡ first ks → Opens j k tt
  plain_shown j w c r g e = shown_by (Opens j) k tt (tokens_of w ++ r) (plain_first j w c r g) (e ∙ s)

  proof_shown : (j : ProofHead) (w : List Spot) (c : tree.ProofCommand) (r : List Token) → OpenedProof j w c → first (tokens_of w ++ r) ≡ first ks → OpensProof j k tt
  proof_shown j w c r g e = shown_by (OpensProof j) k tt (tokens_of w ++ r) (proof_first j w c r g) (e ∙ s)

  label_shown : (w : List Spot) (c : List ℕ × tree.ProofCommand) (r : List Token) → Labelled w c → first (tokens_of w ++ r) ≡ first ks → (x : List ℕ) × ShowsLabel k x
  label_shown w c r g e = let q = label_first w c r g in (q.0, shown_by ShowsLabel k q.0 (tokens_of w ++ r) q.1 (e ∙ s))

  -- a command that is no proof command
  plain_back : (h : Head) → Opens h k tt → (w : List Spot) (c : tree.Command) (r : List Token) → CommandForm w c → BeforeStop r → first (tokens_of w ++ r) ≡ first ks → (d : tree.Command) × PlainRow h w d × (d ≡ c)
  plain_back h o w c r (plain j g) f e =
      let same : j ≡ h = one_head j h k (plain_shown j w c r g e) o in
      (c, subst (λ (i : Head). PlainRow i w c) same g, refl)
  plain_back h o w _ r (unlabelled {c = c} j g) f e = absurd (plain_no_proof h j k o (proof_shown j w c r g e))
  plain_back h o w _ r (labelled {x = x} {c = c} g) f e = let q = label_shown w (x, c) r g e in absurd (plain_no_label h k q.0 q.1 o)

  pub plain_command : (h : Head) → Opens h k tt → Continues (PlainRow h) CommandForm BeforeStop (λ c. c) ks ks
  plain_command h o = chosen (PlainRow h) CommandForm BeforeStop (λ c. c) ks (λ w c g. plain h g) (plain_back h o)

  -- a proof command without a label
  unlabelled_back : (h : ProofHead) → OpensProof h k tt → (w : List Spot) (c : tree.Command) (r : List Token) → CommandForm w c → BeforeStop r → first (tokens_of w ++ r) ≡ first ks → (d : tree.ProofCommand) × OpenedProof h w d × (tree.in_proof None d ≡ c)
  unlabelled_back h o w c r (plain j g) f e = absurd (plain_no_proof j h k (plain_shown j w c r g e) o)
  unlabelled_back h o w _ r (unlabelled {c = c} j g) f e =
      let same : j ≡ h = one_proof_head j h k (proof_shown j w c r g e) o in
      (c, subst (λ (i : ProofHead). OpenedProof i w c) same g, refl)
  unlabelled_back h o w _ r (labelled {x = x} {c = c} g) f e = let q = label_shown w (x, c) r g e in absurd (proof_no_label h k q.0 q.1 o)

  pub unlabelled_command : (h : ProofHead) → OpensProof h k tt → Continues (OpenedProof h) CommandForm BeforeStop (λ c. tree.in_proof None c) ks ks
  unlabelled_command h o = chosen (OpenedProof h) CommandForm BeforeStop (λ c. tree.in_proof None c) ks (λ w c g. unlabelled h g) (unlabelled_back h o)

  -- a proof command with a label
  labelled_back : (x : List ℕ) → ShowsLabel k x → (w : List Spot) (c : tree.Command) (r : List Token) → CommandForm w c → BeforeStop r → first (tokens_of w ++ r) ≡ first ks → (d : List ℕ × tree.ProofCommand) × Labelled w d × (tree.in_proof (Some d.0) d.1 ≡ c)
  labelled_back x l w c r (plain j g) f e = absurd (plain_no_label j k x l (plain_shown j w c r g e))
  labelled_back x l w _ r (unlabelled {c = c} j g) f e = absurd (proof_no_label j k x l (proof_shown j w c r g e))
  labelled_back x l w _ r (labelled {x = y} {c = c} g) f e = ((y, c), g, refl)

  pub labelled_command : (x : List ℕ) → ShowsLabel k x → Continues Labelled CommandForm BeforeStop (λ d. tree.in_proof (Some d.0) d.1) ks ks
  labelled_command x l = chosen Labelled CommandForm BeforeStop (λ d. tree.in_proof (Some d.0) d.1) ks (λ w d g. labelled g) (labelled_back x l)

  -- behind a label
  proof_back : (h : ProofHead) → OpensProof h k tt → (w : List Spot) (c : tree.ProofCommand) (r : List Token) → LabelledForm w c → BeforeStop r → first (tokens_of w ++ r) ≡ first ks → (d : tree.ProofCommand) × OpenedProof h w d × (d ≡ c)
  proof_back h o w c r (labelled_form j t g) f e =
      let same : j ≡ h = one_proof_head j h k (proof_shown j w c r g e) o in
      (c, subst (λ (i : ProofHead). OpenedProof i w c) same g, refl)

  pub behind_label : (h : ProofHead) → OpensProof h k tt → IsTrue (takes_label h) → Continues (OpenedProof h) LabelledForm BeforeStop (λ c. c) ks ks
  behind_label h o t = chosen (OpenedProof h) LabelledForm BeforeStop (λ c. c) ks (λ w c g. labelled_form h t g) (proof_back h o)

module _ (ks : List Token) where
  -- no command
  none_begins : ((h : Head) → Without (Opens h) ks) → ((h : ProofHead) → Without (OpensProof h) ks) → Without ShowsLabel ks
      → (w : List Spot) (c : tree.Command) (r : List Token) → CommandForm w c → BeforeStop r → first (tokens_of w ++ r) ≡ first ks → ⊥
  none_begins a b n w c r (plain j g) f e = let q = plain_first j w c r g in a j q.0 tt (sym e ∙ q.1) q.2
  none_begins a b n w _ r (unlabelled {c = c} j g) f e = let q = proof_first j w c r g in b j q.0 tt (sym e ∙ q.1) q.2
  none_begins a b n w _ r (labelled {x = x} {c = c} g) f e = let p = label_first w (x, c) r g in let q = p.1 in n q.0 p.0 (sym e ∙ q.1) q.2

  pub no_command : ((h : Head) → Without (Opens h) ks) → ((h : ProofHead) → Without (OpensProof h) ks) → Without ShowsLabel ks → StopsAt CommandForm BeforeStop ks ks
  no_command a b n = nothing_begins CommandForm BeforeStop ks command_example (none_begins a b n)

  no_labelled_begins : ((k : Token) (h : ProofHead) → first ks ≡ Some k → OpensProof h k tt → IsTrue (takes_label h) → ⊥)
      → (w : List Spot) (c : tree.ProofCommand) (r : List Token) → LabelledForm w c → BeforeStop r → first (tokens_of w ++ r) ≡ first ks → ⊥
  no_labelled_begins n w c r (labelled_form j t g) f e = let q = proof_first j w c r g in n q.0 j (sym e ∙ q.1) q.2 t

  pub no_labelled : ((k : Token) (h : ProofHead) → first ks ≡ Some k → OpensProof h k tt → IsTrue (takes_label h) → ⊥) → StopsAt LabelledForm BeforeStop ks ks
  no_labelled n = nothing_begins LabelledForm BeforeStop ks labelled_example (no_labelled_begins n)
