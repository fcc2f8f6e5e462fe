-- Rows that are one part, rows that are empty, parts that may be left out, and those with two forms.
use Rattle.std.proofs.Common.{◌≡◌, ℕ, List, [], ◌++◌, Bool, true, false, Some, None, refl, sym, ◌∙◌, subst, codes, inl, inr}
use Rattle.ab_grammar.specs.declared.head.Head.TheVariants as head
use Rattle.ab_grammar.specs.declared.head.ProofHead.TheVariants as proof
use Rattle.ab_grammar.specs.Token.{Token, word, left_paren, right_paren, other, Other, stop, becomes, star, to_word, with_word, on_word, number}
use Rattle.ab_grammar.specs.Tree.{Tree}
use Rattle.ab_grammar.specs.Nesting.{Spot}
use Rattle.ab_grammar.specs.Language.{tokens_of, Key, Expression}
use Rattle.ab_grammar.proofs.Reading.{ReadsOff}
use Rattle.ab_grammar.specs.CommandTrees as tree
use Rattle.ab_grammar.specs.CommandForms.{One, Nothing, nothing, joined, Valued, valued, Optional, Many, OneOrMore, ◌▸◌}
use Rattle.ab_grammar.proofs.Following.{first, Comes, Except, Showing, Without, BeforeStop, ClauseEnds, ArgumentsEnd}
use Rattle.ab_grammar.specs.CommandTable.{Row, ProofRow, Name, Word, Sign, ClauseBody, ClauseForm, Clauses, Definition, InstanceList, Instances, Arguments, Keep, kept, OptionalName, Switch, switched_on, switched_off, ShowsName, shows_name, ShowsArgument, ShowsDepth, shows_depth, ShowsText, StandsAnywhere, stands_at, define_row, codefine_row, specification_row, show_row, quit_row, back_row, reset_row, undo_row, abort_row, intros_row, coinduction_row, search_row, skip_row, split_row, split_all_row, left_row, right_row, exists_row, witness_row, unfold_row, assert_row, clear_row}
use Rattle.ab_grammar.proofs.Lists.{regroup}
use Rattle.ab_grammar.proofs.Choosing.{key_begins, one_shown, nothing_reads}
use Rattle.ab_grammar.proofs.Continuing.{Continues, onwards, chosen, same_texts, with_value, is_present, is_absent, Apart, Missing}
use Rattle.ab_grammar.proofs.Beginnings.{Begins, begins_no_other, expression_begins}
use Rattle.ab_grammar.proofs.Rows.{keyed_in_front}

-- One part

module _ (ks : List Token) where
  define_back : (w : List Spot) (c : tree.Command) → Row head.Define w c → (d : List tree.Defined × List tree.Clause) × Definition w d × (tree.define true d.0 d.1 ≡ c)
  define_back _ _ (define_row {ds = ds} {cs = cs} h) = ((ds, cs), h, refl)

  pub define : Continues Definition (Row head.Define) BeforeStop (λ d. tree.define true d.0 d.1) ks ks
  define = same_texts Definition (Row head.Define) BeforeStop (λ d. tree.define true d.0 d.1) ks (λ w d g. define_row g) define_back

  codefine_back : (w : List Spot) (c : tree.Command) → Row head.CoDefine w c → (d : List tree.Defined × List tree.Clause) × Definition w d × (tree.define false d.0 d.1 ≡ c)
  codefine_back _ _ (codefine_row {ds = ds} {cs = cs} h) = ((ds, cs), h, refl)

  pub codefine : Continues Definition (Row head.CoDefine) BeforeStop (λ d. tree.define false d.0 d.1) ks ks
  codefine = same_texts Definition (Row head.CoDefine) BeforeStop (λ d. tree.define false d.0 d.1) ks (λ w d g. codefine_row g) codefine_back

  specification_back : (w : List Spot) (c : tree.Command) → Row head.Specification w c → (x : List ℕ) × One ShowsText w x × (tree.specification x ≡ c)
  specification_back _ _ (specification_row {x = x} h) = (x, h, refl)

  pub specification : Continues (One ShowsText) (Row head.Specification) BeforeStop (λ x. tree.specification x) ks ks
  specification = same_texts (One ShowsText) (Row head.Specification) BeforeStop (λ x. tree.specification x) ks (λ w x g. specification_row g) specification_back

  show_back : (w : List Spot) (c : tree.Command) → Row head.Show w c → (x : List ℕ) × Name w x × (tree.show x ≡ c)
  show_back _ _ (show_row {x = x} h) = (x, h, refl)

  pub show : Continues Name (Row head.Show) BeforeStop (λ x. tree.show x) ks ks
  show = same_texts Name (Row head.Show) BeforeStop (λ x. tree.show x) ks (λ w x g. show_row g) show_back

  intros_back : (w : List Spot) (c : tree.ProofCommand) → ProofRow proof.Intros w c → (xs : List (List ℕ)) × Many Name w xs × (tree.intros xs ≡ c)
  intros_back _ _ (intros_row {xs = xs} h) = (xs, h, refl)

  pub intros : Continues (Many Name) (ProofRow proof.Intros) BeforeStop (λ xs. tree.intros xs) ks ks
  intros = same_texts (Many Name) (ProofRow proof.Intros) BeforeStop (λ xs. tree.intros xs) ks (λ w xs g. intros_row g) intros_back

  search_back : (w : List Spot) (c : tree.ProofCommand) → ProofRow proof.Search w c → (n : ℕ) × Optional 5 (One ShowsDepth) w n × (tree.search n ≡ c)
  search_back _ _ (search_row {n = n} h) = (n, h, refl)

  pub search : Continues (Optional 5 (One ShowsDepth)) (ProofRow proof.Search) BeforeStop (λ n. tree.search n) ks ks
  search = same_texts (Optional 5 (One ShowsDepth)) (ProofRow proof.Search) BeforeStop (λ n. tree.search n) ks (λ w n g. search_row g) search_back

  exists_back : (w : List Spot) (c : tree.ProofCommand) → ProofRow proof.Exists w c → (e : Tree) × Expression w e × (tree.exists e ≡ c)
  exists_back _ _ (exists_row {e = e} h) = (e, h, refl)

  pub exists : Continues Expression (ProofRow proof.Exists) BeforeStop (λ e. tree.exists e) ks ks
  exists = same_texts Expression (ProofRow proof.Exists) BeforeStop (λ e. tree.exists e) ks (λ w e g. exists_row g) exists_back

  witness_back : (w : List Spot) (c : tree.ProofCommand) → ProofRow proof.Witness w c → (e : Tree) × Expression w e × (tree.exists e ≡ c)
  witness_back _ _ (witness_row {e = e} h) = (e, h, refl)

  pub witness : Continues Expression (ProofRow proof.Witness) BeforeStop (λ e. tree.exists e) ks ks
  witness = same_texts Expression (ProofRow proof.Witness) BeforeStop (λ e. tree.exists e) ks (λ w e g. witness_row g) witness_back

  assert_back : (w : List Spot) (c : tree.ProofCommand) → ProofRow proof.Assert w c → (e : Tree) × Expression w e × (tree.assert e ≡ c)
  assert_back _ _ (assert_row {e = e} h) = (e, h, refl)

  pub assert : Continues Expression (ProofRow proof.Assert) BeforeStop (λ e. tree.assert e) ks ks
  assert = same_texts Expression (ProofRow proof.Assert) BeforeStop (λ e. tree.assert e) ks (λ w e g. assert_row g) assert_back

  clear_back : (w : List Spot) (c : tree.ProofCommand) → ProofRow proof.Clear w c → (xs : List (List ℕ)) × OneOrMore Name w xs × (tree.clear xs ≡ c)
  clear_back _ _ (clear_row {xs = xs} h) = (xs, h, refl)

  pub clear : Continues (OneOrMore Name) (ProofRow proof.Clear) BeforeStop (λ xs. tree.clear xs) ks ks
  clear = same_texts (OneOrMore Name) (ProofRow proof.Clear) BeforeStop (λ xs. tree.clear xs) ks (λ w xs g. clear_row g) clear_back

-- Empty rows

-- R has the empty text alone, and this value for it
module _ {A : Type 0} (R : List Spot → A → Type 0) (v : A) (is : R [] v) (only : (w : List Spot) (b : A) → R w b → (w ≡ []) × (b ≡ v)) (ks : List Token) where
  pub empty_row : ReadsOff R BeforeStop ks v ks
  empty_row = nothing_reads R BeforeStop ks v is (λ w b r g f e. only w b g)

empty_only : {A : Type 0} (v : A) (w : List Spot) → Nothing w tt → (w ≡ []) × (v ≡ v)
empty_only v _ nothing = (refl, refl)

quit_only : (w : List Spot) (c : tree.Command) → Row head.Quit w c → (w ≡ []) × (c ≡ tree.quit)
quit_only w _ (quit_row n) = empty_only tree.quit w n

back_only : (w : List Spot) (c : tree.Command) → Row head.Back w c → (w ≡ []) × (c ≡ tree.back)
back_only w _ (back_row n) = empty_only tree.back w n

reset_only : (w : List Spot) (c : tree.Command) → Row head.Reset w c → (w ≡ []) × (c ≡ tree.reset)
reset_only w _ (reset_row n) = empty_only tree.reset w n

undo_only : (w : List Spot) (c : tree.Command) → Row head.Undo w c → (w ≡ []) × (c ≡ tree.undo)
undo_only w _ (undo_row n) = empty_only tree.undo w n

abort_only : (w : List Spot) (c : tree.Command) → Row head.Abort w c → (w ≡ []) × (c ≡ tree.abort)
abort_only w _ (abort_row n) = empty_only tree.abort w n

skip_only : (w : List Spot) (c : tree.ProofCommand) → ProofRow proof.Skip w c → (w ≡ []) × (c ≡ tree.skip)
skip_only w _ (skip_row n) = empty_only tree.skip w n

coinduction_only : (w : List Spot) (c : tree.ProofCommand) → ProofRow proof.Coinduction w c → (w ≡ []) × (c ≡ tree.coinduction)
coinduction_only w _ (coinduction_row n) = empty_only tree.coinduction w n

left_only : (w : List Spot) (c : tree.ProofCommand) → ProofRow proof.Left w c → (w ≡ []) × (c ≡ tree.left)
left_only w _ (left_row n) = empty_only tree.left w n

right_only : (w : List Spot) (c : tree.ProofCommand) → ProofRow proof.Right w c → (w ≡ []) × (c ≡ tree.right)
right_only w _ (right_row n) = empty_only tree.right w n

unfold_only : (w : List Spot) (c : tree.ProofCommand) → ProofRow proof.Unfold w c → (w ≡ []) × (c ≡ tree.unfold_goal)
unfold_only w _ (unfold_row n) = empty_only tree.unfold_goal w n

pub quit : (ks : List Token) → ReadsOff (Row head.Quit) BeforeStop ks tree.quit ks
quit = empty_row (Row head.Quit) tree.quit (quit_row nothing) quit_only

pub back : (ks : List Token) → ReadsOff (Row head.Back) BeforeStop ks tree.back ks
back = empty_row (Row head.Back) tree.back (back_row nothing) back_only

pub reset : (ks : List Token) → ReadsOff (Row head.Reset) BeforeStop ks tree.reset ks
reset = empty_row (Row head.Reset) tree.reset (reset_row nothing) reset_only

pub undo : (ks : List Token) → ReadsOff (Row head.Undo) BeforeStop ks tree.undo ks
undo = empty_row (Row head.Undo) tree.undo (undo_row nothing) undo_only

pub abort : (ks : List Token) → ReadsOff (Row head.Abort) BeforeStop ks tree.abort ks
abort = empty_row (Row head.Abort) tree.abort (abort_row nothing) abort_only

pub coinduction : (ks : List Token) → ReadsOff (ProofRow proof.Coinduction) BeforeStop ks tree.coinduction ks
coinduction = empty_row (ProofRow proof.Coinduction) tree.coinduction (coinduction_row nothing) coinduction_only

pub skip : (ks : List Token) → ReadsOff (ProofRow proof.Skip) BeforeStop ks tree.skip ks
skip = empty_row (ProofRow proof.Skip) tree.skip (skip_row nothing) skip_only

pub left : (ks : List Token) → ReadsOff (ProofRow proof.Left) BeforeStop ks tree.left ks
left = empty_row (ProofRow proof.Left) tree.left (left_row nothing) left_only

pub right : (ks : List Token) → ReadsOff (ProofRow proof.Right) BeforeStop ks tree.right ks
right = empty_row (ProofRow proof.Right) tree.right (right_row nothing) right_only

pub unfold_goal : (ks : List Token) → ReadsOff (ProofRow proof.Unfold) BeforeStop ks tree.unfold_goal ks
unfold_goal = empty_row (ProofRow proof.Unfold) tree.unfold_goal (unfold_row nothing) unfold_only

-- Parts that may be left out

pub other_stop : (o : Other) → (stop ≡ o → ⊥) → (ks : List Token) → Comes (other o) ks → Apart BeforeStop ks
other_stop o n ks s r e f = let both : Some (other stop) ≡ Some (other o) = sym e ∙ f ∙ s in let same : stop ≡ o = cc in n same

-- a key shows that a part is there
module _ {A : Type 0} (k : Token) (G : List Spot → A → Type 0) (F : List Token → Type 0) (ks : List Token) where
  pub keyed_missing : Except k ks → Missing (Key k ▸ G) F ks
  keyed_missing n w a r g f e = n (sym e ∙ keyed_in_front k G w a r g)

module _ {A B : Type 0} (f : A → B) (G : List Spot → A → Type 0) (F : List Token → Type 0) (ks : List Token) where
  valued_missing_at : (w : List Spot) (b : B) (r : List Token) → Valued f G w b → F r → first (tokens_of w ++ r) ≡ first ks → Missing G F ks → ⊥
  valued_missing_at w _ r (valued {a = a} g) h e n = n w a r g h e

  pub valued_missing : Missing G F ks → Missing (Valued f G) F ks
  valued_missing n w b r g h e = valued_missing_at w b r g h e n

module _ (ks : List Token) where
  pub with_instances : Comes (other with_word) ks → Continues Instances (Optional [] Instances) BeforeStop (λ is. is) ks ks
  with_instances s = is_present [] Instances BeforeStop ks (other_stop with_word (λ e. absurd (cc)) ks s)

  pub no_instances : Except (other with_word) ks → ReadsOff (Optional [] Instances) BeforeStop ks [] ks
  no_instances n = is_absent [] Instances BeforeStop ks (keyed_missing (other with_word) InstanceList BeforeStop ks n)

  arguments_apart : Comes (other to_word) ks → Apart ArgumentsEnd ks
  arguments_apart s r (inl e) f = absurd (cc)
  arguments_apart s r (inr e) f = absurd (cc)

  pub with_arguments : Comes (other to_word) ks → Continues Arguments (Optional [] Arguments) ArgumentsEnd (λ vs. vs) ks ks
  with_arguments s = is_present [] Arguments ArgumentsEnd ks (arguments_apart s)

  pub no_arguments : Except (other to_word) ks → ReadsOff (Optional [] Arguments) ArgumentsEnd ks [] ks
  no_arguments n = is_absent [] Arguments ArgumentsEnd ks (keyed_missing (other to_word) (OneOrMore (One ShowsArgument)) ArgumentsEnd ks n)

  -- a part behind a key, before what isn't the key
  module _ {A : Type 0} (d : A) (k : Token) (G : List Spot → A → Type 0) where
    pub with_keyed : Comes k ks → Continues (Key k ▸ G) (Optional d (Key k ▸ G)) (Except k) (λ a. a) ks ks
    with_keyed s = is_present d (Key k ▸ G) (Except k) ks (λ r n e. n (e ∙ s))

    pub no_keyed : Except k ks → ReadsOff (Optional d (Key k ▸ G)) (Except k) ks d ks
    no_keyed n = is_absent d (Key k ▸ G) (Except k) ks (keyed_missing k G (Except k) ks n)

  body_apart : Comes (other becomes) ks → Apart ClauseEnds ks
  body_apart s r (inl e) f = absurd (cc)
  body_apart s r (inr e) f = absurd (cc)

  pub with_body : Comes (other becomes) ks → Continues (Sign becomes ▸ Expression) ClauseBody ClauseEnds (λ e. Some e) ks ks
  with_body s = onwards (with_value Some (Sign becomes ▸ Expression) ClauseEnds ks) (is_present None (Valued Some (Sign becomes ▸ Expression)) ClauseEnds ks (body_apart s))

  pub no_body : Except (other becomes) ks → ReadsOff ClauseBody ClauseEnds ks None ks
  no_body n = is_absent None (Valued Some (Sign becomes ▸ Expression)) ClauseEnds ks (valued_missing Some (Sign becomes ▸ Expression) ClauseEnds ks (keyed_missing (other becomes) Expression ClauseEnds ks n))

  keep_apart : Comes left_paren ks → Apart BeforeStop ks
  keep_apart s r e f = absurd (cc)

  pub with_keep : Comes left_paren ks → Continues (Key left_paren ▸ (Word (codes "keep") ▸ Key right_paren)) (Optional false Keep) BeforeStop (λ u. true) ks ks
  with_keep s = onwards (with_value kept (Key left_paren ▸ (Word (codes "keep") ▸ Key right_paren)) BeforeStop ks) (is_present false Keep BeforeStop ks (keep_apart s))

  pub no_keep : Except left_paren ks → ReadsOff (Optional false Keep) BeforeStop ks false ks
  no_keep n = is_absent false Keep BeforeStop ks (valued_missing kept (Key left_paren ▸ (Word (codes "keep") ▸ Key right_paren)) BeforeStop ks (keyed_missing left_paren (Word (codes "keep") ▸ Key right_paren) BeforeStop ks n))

  name_no_stop : (k : Token) (x : List ℕ) → ShowsName k x → Some k ≡ Some (other stop) → ⊥
  name_no_stop _ x (shows_name y p) e = absurd (cc)

  pub with_name : (k : Token) (x : List ℕ) → first ks ≡ Some k → ShowsName k x → Continues Name OptionalName BeforeStop (λ y. Some y) ks ks
  with_name k x e s = onwards (with_value Some Name BeforeStop ks) (is_present None (Valued Some Name) BeforeStop ks (λ r f g. name_no_stop k x s (sym e ∙ sym g ∙ f)))

  name_missing : Without ShowsName ks → Missing Name BeforeStop ks
  name_missing n w x r g f e = let s = one_shown ShowsName w x r g in n s.0 x (sym e ∙ s.1) s.2

  pub no_name : Without ShowsName ks → ReadsOff OptionalName BeforeStop ks None ks
  no_name n = is_absent None (Valued Some Name) BeforeStop ks (valued_missing Some Name BeforeStop ks (name_missing n))

  -- what isn't the full stop can only be the part
  pub with_depth : Except (other stop) ks → Continues (One ShowsDepth) (Optional 5 (One ShowsDepth)) BeforeStop (λ n. n) ks ks
  with_depth n = is_present 5 (One ShowsDepth) BeforeStop ks (λ r e f. n (sym f ∙ e))

  depth_no_stop : (r : List Token) (n : ℕ) → Showing ShowsDepth n r → BeforeStop r → ⊥
  depth_no_stop r n (k, e, shows_depth m h) f = let bad : Some (other (number m)) ≡ Some (other stop) = sym e ∙ f in absurd (cc)

  pub no_depth : Comes (other stop) ks → ReadsOff (Optional 5 (One ShowsDepth)) BeforeStop ks 5 ks
  no_depth s = is_absent 5 (One ShowsDepth) BeforeStop ks (λ w n r g f e. depth_no_stop (tokens_of w ++ r) n (one_shown ShowsDepth w n r g) (e ∙ s))

  pub with_clauses : Except (other stop) ks → Continues Clauses (Optional [] Clauses) BeforeStop (λ cs. cs) ks ks
  with_clauses n = is_present [] Clauses BeforeStop ks (λ r e f. n (sym f ∙ e))

  clause_begins : (w : List Spot) (c : tree.Clause) (r : List Token) → ClauseForm w c → Begins (first (tokens_of w ++ r))
  clause_begins _ _ r (valued (joined {us = us} {vs = vs} {a = e} g h)) = subst (λ (v : List Token). Begins (first v)) (sym (regroup us vs r)) (expression_begins us e (tokens_of vs ++ r) g)

  clauses_begin : (w : List Spot) (cs : List tree.Clause) (r : List Token) → Clauses w cs → Begins (first (tokens_of w ++ r))
  clauses_begin _ _ r (joined {us = us} {vs = vs} {a = c} g h) = subst (λ (v : List Token). Begins (first v)) (sym (regroup us vs r)) (clause_begins us c (tokens_of vs ++ r) g)

  pub no_clauses : Comes (other stop) ks → ReadsOff (Optional [] Clauses) BeforeStop ks [] ks
  no_clauses s = is_absent [] Clauses BeforeStop ks (λ w cs r g f e. begins_no_other _ stop (clauses_begin w cs r g) (e ∙ s))

-- Two forms

module _ (ks : List Token) where
  off_no_on : (r : List Token) (u : Unit {0}) → Showing (StandsAnywhere (word (codes "off"))) u r → Comes (other on_word) r → ⊥
  off_no_on r u (k, e, stands_at p) f = let bad : Some (word (codes "off") p) ≡ Some (other on_word) = sym e ∙ f in absurd (cc)

  on_back : Comes (other on_word) ks → (w : List Spot) (b : Bool) (r : List Token) → Switch w b → BeforeStop r → first (tokens_of w ++ r) ≡ first ks → (u : Unit {0}) × Sign on_word w u × (true ≡ b)
  on_back s w _ r (switched_on g) f e = (tt, g, refl)
  on_back s w _ r (switched_off g) f e = absurd (off_no_on (tokens_of w ++ r) tt (one_shown (StandsAnywhere (word (codes "off"))) w tt r g) (e ∙ s))

  pub switch_on : Comes (other on_word) ks → Continues (Sign on_word) Switch BeforeStop (λ u. true) ks ks
  switch_on s = chosen (Sign on_word) Switch BeforeStop (λ u. true) ks (λ w u g. switched_on g) (on_back s)

  off_back : Except (other on_word) ks → (w : List Spot) (b : Bool) (r : List Token) → Switch w b → BeforeStop r → first (tokens_of w ++ r) ≡ first ks → (u : Unit {0}) × Word (codes "off") w u × (false ≡ b)
  off_back n w _ r (switched_on g) f e = absurd (n (sym e ∙ key_begins (other on_word) w tt r g))
  off_back n w _ r (switched_off g) f e = (tt, g, refl)

  pub switch_off : Except (other on_word) ks → Continues (Word (codes "off")) Switch BeforeStop (λ u. false) ks ks
  switch_off n = chosen (Word (codes "off")) Switch BeforeStop (λ u. false) ks (λ w u g. switched_off g) (off_back n)

  star_back : Comes (other star) ks → (w : List Spot) (c : tree.ProofCommand) (r : List Token) → ProofRow proof.Split w c → BeforeStop r → first (tokens_of w ++ r) ≡ first ks → (u : Unit {0}) × Sign star w u × (tree.split_all ≡ c)
  star_back s _ _ r (split_row nothing) f e = absurd (other_stop star (λ q. absurd (cc)) ks s r f e)
  star_back s w _ r (split_all_row g) f e = (tt, g, refl)

  pub split_all : Comes (other star) ks → Continues (Sign star) (ProofRow proof.Split) BeforeStop (λ u. tree.split_all) ks ks
  split_all s = chosen (Sign star) (ProofRow proof.Split) BeforeStop (λ u. tree.split_all) ks (λ w u g. split_all_row g) (star_back s)

  split_only : Except (other star) ks → (w : List Spot) (c : tree.ProofCommand) (r : List Token) → ProofRow proof.Split w c → BeforeStop r → first (tokens_of w ++ r) ≡ first ks → (w ≡ []) × (c ≡ tree.split)
  split_only n w _ r (split_row g) f e = empty_only tree.split w g
  split_only n w _ r (split_all_row g) f e = absurd (n (sym e ∙ key_begins (other star) w tt r g))

  pub split : Except (other star) ks → ReadsOff (ProofRow proof.Split) BeforeStop ks tree.split ks
  split n = nothing_reads (ProofRow proof.Split) BeforeStop ks tree.split (split_row nothing) (split_only n)
