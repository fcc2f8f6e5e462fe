-- The rows of the table, read part by part.
use Rattle.std.proofs.Common.{◌≡◌, ℕ, List, [], ◌∷◌, ◌++◌, Bool, true, false, Option, Some, None, refl, ap, sym, ◌∙◌, codes, inl, inr}
use Rattle.ab_grammar.specs.declared.Infix.TheVariants.{Equal}
use Rattle.ab_grammar.specs.declared.head.Head.TheVariants as head
use Rattle.ab_grammar.specs.declared.head.ProofHead.TheVariants as proof
use Rattle.ab_grammar.specs.Token.{Token, sign, left_paren, right_paren, comma, colon, other, stop, semicolon, becomes, by_word, to_word, with_word, on_word, type_word}
use Rattle.ab_grammar.specs.Tree.{Ty, Tree}
use Rattle.ab_grammar.specs.Nesting.{Spot, lone}
use Rattle.ab_grammar.specs.Language.{tokens_of, Key, the_key, Expression, TypeExpression}
use Rattle.ab_grammar.proofs.Following.{first, Follow, follow, Anything, Followed, by_other, Comes, Except, Without, BeforeStop, ClauseEnds, DepthEnds, ArgumentsEnd}
use Rattle.ab_grammar.proofs.Reading.{ReadsOff, Cause, RefusesAt}
use Rattle.ab_grammar.specs.CommandTrees as tree
use Rattle.ab_grammar.specs.CommandForms.{One, Joined, joined, Valued, valued, Optional, left_out, present, no_more, OneOrMore, ◌▹◌, ◌▸◌, ◌◂◌}
use Rattle.ab_grammar.specs.CommandTable.{Row, ProofRow, Name, DeclaredName, DeclaredNames, Word, Sign, Definiendum, defined_of, Definienda, ClauseBody, ClauseForm, clause_of, Clauses, Definition, InstanceForm, instance_of, InstanceList, Instances, Arguments, Keep, Nominals, OptionalName, OptionalDepth, OptionalLimit, Numbers, Switch, switched_on, ShowsNominal, ShowsDepth, ShowsLimit, kind_row, typed_row, theorem_row, query_row, set_row, induction_row, case_row, apply_row, backchain_row, inst_row, cut_row, rename_row, monotone_row, permute_row, shows_nominal}
use Rattle.ab_grammar.proofs.Lists.{regroup}
use Rattle.ab_grammar.proofs.Joining.{Example}
use Rattle.ab_grammar.proofs.Choosing.{key_begins, key_example}
use Rattle.ab_grammar.proofs.Continuing.{Continues, onwards, behind, before, same_texts}
use Rattle.ab_grammar.proofs.Shown.{name_example, number_example, nominal_example}
use Rattle.ab_grammar.proofs.Beginnings.{begins_no_comma, type_begins, expression_example, type_example, followed_by, followed_by_stop}

-- R is read as G, and then H behind it; f makes the value
pub record TwoParts {A B C : Type 0} (G : List Spot → A → Type 0) (E : List Token → Type 0) (H : List Spot → B → Type 0) (R : List Spot → C → Type 0) (F : List Token → Type 0) (f : A → B → C) : Type 0 where
  pub first_refused : (ks : List Token) (c : Cause) (rest : List Token) → RefusesAt G E c ks rest → RefusesAt R F c ks rest
  pub first_read : (ks ms : List Token) (a : A) → ReadsOff G E ks a ms → Continues H R F (f a) ms ks

-- R has the texts of G and then of H, joined by j; g makes the value
pub two_parts : {A B C D : Type 0} (j : A → B → D) (g : D → C) (G : List Spot → A → Type 0) (E : List Token → Type 0) (H : List Spot → B → Type 0) (R : List Spot → C → Type 0) (F : List Token → Type 0)
    → ((r : List Token) → Follow H F r → E r) → Example H → ((w : List Spot) (d : D) → Joined j G H w d → R w (g d)) → ((w : List Spot) (c : C) → R w c → (d : D) × Joined j G H w d × (g d ≡ c))
    → TwoParts G E H R F (λ a b. g (j a b))
two_parts j g G E H R F less x to back = record {
  first_refused = λ ks c rest p. (same_texts (Joined j G H) R F g ks to back).refuses c rest (before j G H E F less x c ks rest p);
  first_read = λ ks ms a p. onwards (behind j G H E F less ks ms a p) (same_texts (Joined j G H) R F g ks to back);
}

-- anything may follow the first part
pub any : {B : Type 0} (H : List Spot → B → Type 0) (F : List Token → Type 0) (r : List Token) → Follow H F r → Unit {0}
any H F r f = tt

-- what is joined is the whole
pub same : {D : Type 0} (G : List Spot → D → Type 0) (w : List Spot) (d : D) → G w d → (e : D) × G w e × (e ≡ d)
same G w d g = (d, g, refl)

-- w and a key
pub name_and : (k : Token) → TwoParts Name Anything (Key k) (Name ◂ Key k) Anything (λ x u. x)
name_and k = two_parts (λ x (u : Unit {0}). x) (λ x. x) Name Anything (Key k) (Name ◂ Key k) Anything (any (Key k) Anything) (key_example k) (λ w d g. g) (same (Name ◂ Key k))

pub declared_and : (k : Token) → TwoParts DeclaredName Anything (Key k) (DeclaredName ◂ Key k) Anything (λ x u. x)
declared_and k = two_parts (λ x (u : Unit {0}). x) (λ x. x) DeclaredName Anything (Key k) (DeclaredName ◂ Key k) Anything (any (Key k) Anything) (key_example k) (λ w d g. g) (same (DeclaredName ◂ Key k))

pub valued_back : {A B : Type 0} (f : A → B) (G : List Spot → A → Type 0) (w : List Spot) (b : B) → Valued f G w b → (a : A) × G w a × (f a ≡ b)
valued_back f G _ _ (valued {a = a} g) = (a, g, refl)

pub definiendum : TwoParts (DeclaredName ◂ Key colon) Anything TypeExpression Definiendum Followed (λ x A. record { name = x; type_of = A })
definiendum = two_parts (λ x A. (x, A)) defined_of (DeclaredName ◂ Key colon) Anything TypeExpression Definiendum Followed (any TypeExpression Followed) type_example (λ w d g. valued g) (valued_back defined_of (DeclaredName ◂ Key colon ▹ TypeExpression))

pub instance_form : TwoParts (Name ◂ Key (sign Equal)) Anything Expression InstanceForm Followed (λ x e. record { name = x; term = e })
instance_form = two_parts (λ x e. (x, e)) instance_of (Name ◂ Key (sign Equal)) Anything Expression InstanceForm Followed (any Expression Followed) expression_example (λ w d g. valued g) (valued_back instance_of (Name ◂ Key (sign Equal) ▹ Expression))

-- Examples, and what may follow

pub left_out_example : {A : Type 0} (d : A) (G : List Spot → A → Type 0) → Example (Optional d G)
left_out_example d G = record { spots = []; value = d; text = left_out }

switch_example : Example Switch
switch_example = record { spots = lone (other on_word) ∷ []; value = true; text = switched_on the_key }

pub numbers_example : Example Numbers
numbers_example = record { spots = number_example.spots ++ []; value = number_example.value ∷ []; text = joined (number_example.text) no_more }

nominals_example : Example (OneOrMore (One ShowsNominal))
nominals_example = record { spots = nominal_example.spots ++ []; value = nominal_example.value ∷ []; text = joined (nominal_example.text) no_more }

an_instance : Example InstanceForm
an_instance =
    let e = expression_example in
    let n = name_example in
    record { spots = (n.spots ++ lone (sign Equal) ∷ []) ++ e.spots; value = record { name = n.value; term = e.value }; text = valued (joined (joined (n.text) the_key) (e.text)) }

pub instance_list_example : Example InstanceList
instance_list_example = record { spots = an_instance.spots ++ []; value = an_instance.value ∷ []; text = joined (an_instance.text) no_more }

-- what follows is the first token of H, or what follows H
pub key_in_front : (k : Token) (F : List Token → Type 0) (r : List Token) → Follow (Key k) F r → Comes k r
key_in_front k F _ (follow {vs = vs} {r = r} {b = u} h f) = key_begins k vs u r h

key_follows : (r : List Token) → Follow (Sign by_word) Anything r → Comes (other by_word) r
key_follows r f = key_in_front (other by_word) Anything r f

pub names_then_type_word : (r : List Token) → Follow (Sign type_word) BeforeStop r → Except comma r
names_then_type_word r f e = let h = key_in_front (other type_word) BeforeStop r f in absurd (cc)

pub names_then_type : (r : List Token) → Follow TypeExpression BeforeStop r → Except comma r
names_then_type _ (follow {vs = vs} {r = r} {b = A} h f) e = begins_no_comma _ (type_begins vs A r h) e

no_nominal : (k : Token) (n : ℕ) → ShowsNominal k n → Some k ≡ Some right_paren → ⊥
no_nominal _ n (shows_nominal x p m h) e = absurd (cc)

paren_follows : (r : List Token) → Follow (Key right_paren) Anything r → Without ShowsNominal r
paren_follows r f k n e s = no_nominal k n s (sym e ∙ key_in_front right_paren Anything r f)

pub keyed_in_front : {A : Type 0} (k : Token) (G : List Spot → A → Type 0) (w : List Spot) (a : A) (r : List Token) → (Key k ▸ G) w a → Comes k (tokens_of w ++ r)
keyed_in_front k G _ _ r (joined {us = us} {vs = vs} {a = u} g h) = ap first (regroup us vs r) ∙ key_begins k us u (tokens_of vs ++ r) g

instances_in_front : (w : List Spot) (is : List tree.Instance) (r : List Token) → Optional [] Instances w is → BeforeStop r → ArgumentsEnd (tokens_of w ++ r)
instances_in_front _ _ r left_out f = inr f
instances_in_front w is r (present g) f = inl (keyed_in_front (other with_word) InstanceList w is r g)

instances_or_stop : (r : List Token) → Follow (Optional [] Instances) BeforeStop r → ArgumentsEnd r
instances_or_stop _ (follow {vs = vs} {r = r} {b = is} h f) = instances_in_front vs is r h f

pub clause_end_follows : (r : List Token) → ClauseEnds r → Followed r
clause_end_follows r (inl e) = followed_by r (other semicolon) e (by_other semicolon)
clause_end_follows r (inr e) = followed_by_stop r e

body_in_front : (w : List Spot) (b : Option Tree) (r : List Token) → ClauseBody w b → ClauseEnds r → Followed (tokens_of w ++ r)
body_in_front _ _ r left_out f = clause_end_follows r f
body_in_front _ _ r (present (valued {us = us} {a = e} g)) f = followed_by _ (other becomes) (keyed_in_front (other becomes) Expression us e r g) (by_other becomes)

body_follows : (r : List Token) → Follow ClauseBody ClauseEnds r → Followed r
body_follows _ (follow {vs = vs} {r = r} {b = b} h f) = body_in_front vs b r h f

limit_in_front : (w : List Spot) (n : ℕ) (r : List Token) → OptionalLimit w n → BeforeStop r → DepthEnds (tokens_of w ++ r)
limit_in_front _ _ r left_out f = inr f
limit_in_front w n r (present g) f = inl (keyed_in_front (other to_word) (One ShowsLimit) w n r g)

pub limit_follows : (r : List Token) → Follow OptionalLimit BeforeStop r → DepthEnds r
limit_follows _ (follow {vs = vs} {r = r} {b = n} h f) = limit_in_front vs n r h f

depth_end_follows : (r : List Token) → DepthEnds r → Followed r
depth_end_follows r (inl e) = followed_by r (other to_word) e (by_other to_word)
depth_end_follows r (inr e) = followed_by_stop r e

depth_in_front : (w : List Spot) (n : ℕ) (r : List Token) → OptionalDepth w n → DepthEnds r → Followed (tokens_of w ++ r)
depth_in_front _ _ r left_out f = depth_end_follows r f
depth_in_front w n r (present g) f = followed_by _ (other on_word) (keyed_in_front (other on_word) (One ShowsDepth) w n r g) (by_other on_word)

pub depth_follows : (r : List Token) → Follow OptionalDepth DepthEnds r → Followed r
depth_follows _ (follow {vs = vs} {r = r} {b = n} h f) = depth_in_front vs n r h f

-- a depth isn't followed by `on`, and a limit not by `to`
pub depth_no_on : (r : List Token) → DepthEnds r → Except (other on_word) r
depth_no_on r (inl f) e = let bad : Some (other to_word) ≡ Some (other on_word) = sym f ∙ e in absurd (cc)
depth_no_on r (inr f) e = let bad : Some (other stop) ≡ Some (other on_word) = sym f ∙ e in absurd (cc)

pub limit_no_to : (r : List Token) → BeforeStop r → Except (other to_word) r
limit_no_to r f e = let bad : Some (other stop) ≡ Some (other to_word) = sym f ∙ e in absurd (cc)

-- a goal, how deep it is searched, and how many answers are told
pub query_depth : TwoParts Expression Followed OptionalDepth (Expression ▹ OptionalDepth) DepthEnds (λ e n. (e, n))
query_depth = two_parts (λ e n. (e, n)) (λ d. d) Expression Followed OptionalDepth (Expression ▹ OptionalDepth) DepthEnds depth_follows (left_out_example 5 (Sign on_word ▸ One ShowsDepth)) (λ w d g. g) (same (Expression ▹ OptionalDepth))

query_back : (w : List Spot) (c : tree.Command) → Row head.Query w c → (d : (Tree × ℕ) × ℕ) × (Expression ▹ OptionalDepth ▹ OptionalLimit) w d × (tree.query d.0.0 d.0.1 d.1 ≡ c)
query_back _ _ (query_row {e = e} {n = n} {m = m} h) = (((e, n), m), h, refl)

pub query : TwoParts (Expression ▹ OptionalDepth) DepthEnds OptionalLimit (Row head.Query) BeforeStop (λ a m. tree.query a.0 a.1 m)
query = two_parts (λ a m. (a, m)) (λ d. tree.query d.0.0 d.0.1 d.1) (Expression ▹ OptionalDepth) DepthEnds OptionalLimit (Row head.Query) BeforeStop limit_follows (left_out_example 10 (Sign to_word ▸ One ShowsLimit)) (λ w d g. query_row g) query_back

-- a clause: its head, then its body
pub clause_form : TwoParts Expression Followed ClauseBody ClauseForm ClauseEnds (λ e b. clause_of (e, b))
clause_form = two_parts (λ e b. (e, b)) clause_of Expression Followed ClauseBody ClauseForm ClauseEnds body_follows (left_out_example None (Valued Some (Sign becomes ▸ Expression))) (λ w d g. valued g) (valued_back clause_of (Expression ▹ ClauseBody))

-- predicates, `by`, and clauses
pub definienda_by : TwoParts Definienda (Comes (other by_word)) (Sign by_word) (Definienda ◂ Sign by_word) Anything (λ ds u. ds)
definienda_by = two_parts (λ ds (u : Unit {0}). ds) (λ ds. ds) Definienda (Comes (other by_word)) (Sign by_word) (Definienda ◂ Sign by_word) Anything key_follows (key_example (other by_word)) (λ w d g. g) (same (Definienda ◂ Sign by_word))

pub definition : TwoParts (Definienda ◂ Sign by_word) Anything (Optional [] Clauses) Definition BeforeStop (λ ds cs. (ds, cs))
definition = two_parts (λ ds cs. (ds, cs)) (λ d. d) (Definienda ◂ Sign by_word) Anything (Optional [] Clauses) Definition BeforeStop (any (Optional [] Clauses) BeforeStop) (left_out_example [] Clauses) (λ w d g. g) (same Definition)

-- a name, and arguments
pub applied : TwoParts Name Anything (Optional [] Arguments) (Name ▹ Optional [] Arguments) ArgumentsEnd (λ x vs. (x, vs))
applied = two_parts (λ x vs. (x, vs)) (λ d. d) Name Anything (Optional [] Arguments) (Name ▹ Optional [] Arguments) ArgumentsEnd (any (Optional [] Arguments) ArgumentsEnd) (left_out_example [] Arguments) (λ w d g. g) (same (Name ▹ Optional [] Arguments))

-- nominal names in parentheses
pub opened_nominals : TwoParts (Key left_paren) Anything (OneOrMore (One ShowsNominal)) (Key left_paren ▸ OneOrMore (One ShowsNominal)) (Without ShowsNominal) (λ u ns. ns)
opened_nominals = two_parts (λ (u : Unit {0}) ns. ns) (λ d. d) (Key left_paren) Anything (OneOrMore (One ShowsNominal)) (Key left_paren ▸ OneOrMore (One ShowsNominal)) (Without ShowsNominal) (any (OneOrMore (One ShowsNominal)) (Without ShowsNominal)) nominals_example (λ w d g. g) (same (Key left_paren ▸ OneOrMore (One ShowsNominal)))

pub nominals : TwoParts (Key left_paren ▸ OneOrMore (One ShowsNominal)) (Without ShowsNominal) (Key right_paren) Nominals Anything (λ ns u. ns)
nominals = two_parts (λ ns (u : Unit {0}). ns) (λ d. d) (Key left_paren ▸ OneOrMore (One ShowsNominal)) (Without ShowsNominal) (Key right_paren) Nominals Anything paren_follows (key_example right_paren) (λ w d g. g) (same Nominals)

-- keep )
pub keep : TwoParts (Word (codes "keep")) Anything (Key right_paren) (Word (codes "keep") ▸ Key right_paren) Anything (λ u v. v)
keep = two_parts (λ (u v : Unit {0}). v) (λ d. d) (Word (codes "keep")) Anything (Key right_paren) (Word (codes "keep") ▸ Key right_paren) Anything (any (Key right_paren) Anything) (key_example right_paren) (λ w d g. g) (same (Word (codes "keep") ▸ Key right_paren))

kind_back : (w : List Spot) (c : tree.Command) → Row head.Kind w c → (d : List (List ℕ)) × (DeclaredNames ◂ Sign type_word) w d × (tree.kinds d ≡ c)
kind_back _ _ (kind_row {xs = xs} h) = (xs, h, refl)

pub kind : TwoParts DeclaredNames (Except comma) (Sign type_word) (Row head.Kind) BeforeStop (λ xs u. tree.kinds xs)
kind = two_parts (λ xs (u : Unit {0}). xs) (λ xs. tree.kinds xs) DeclaredNames (Except comma) (Sign type_word) (Row head.Kind) BeforeStop names_then_type_word (key_example (other type_word)) (λ w d g. kind_row g) kind_back

typed_back : (w : List Spot) (c : tree.Command) → Row head.Typed w c → (d : List (List ℕ) × Ty) × (DeclaredNames ▹ TypeExpression) w d × (tree.constants d.0 d.1 ≡ c)
typed_back _ _ (typed_row {xs = xs} {A = A} h) = ((xs, A), h, refl)

pub typed : TwoParts DeclaredNames (Except comma) TypeExpression (Row head.Typed) BeforeStop (λ xs A. tree.constants xs A)
typed = two_parts (λ xs A. (xs, A)) (λ d. tree.constants d.0 d.1) DeclaredNames (Except comma) TypeExpression (Row head.Typed) BeforeStop names_then_type type_example (λ w d g. typed_row g) typed_back

theorem_back : (w : List Spot) (c : tree.Command) → Row head.Theorem w c → (d : List ℕ × Tree) × (Name ◂ Key colon ▹ Expression) w d × (tree.theorem d.0 d.1 ≡ c)
theorem_back _ _ (theorem_row {x = x} {e = e} h) = ((x, e), h, refl)

pub theorem : TwoParts (Name ◂ Key colon) Anything Expression (Row head.Theorem) BeforeStop (λ x e. tree.theorem x e)
theorem = two_parts (λ x e. (x, e)) (λ d. tree.theorem d.0 d.1) (Name ◂ Key colon) Anything Expression (Row head.Theorem) BeforeStop (any Expression BeforeStop) expression_example (λ w d g. theorem_row g) theorem_back

set_back : (w : List Spot) (c : tree.Command) → Row head.Set w c → (d : Bool) × (Word (codes "subgoals") ▸ Switch) w d × (tree.subgoals d ≡ c)
set_back _ _ (set_row {on = on} h) = (on, h, refl)

pub set : TwoParts (Word (codes "subgoals")) Anything Switch (Row head.Set) BeforeStop (λ u on. tree.subgoals on)
set = two_parts (λ (u : Unit {0}) on. on) (λ on. tree.subgoals on) (Word (codes "subgoals")) Anything Switch (Row head.Set) BeforeStop (any Switch BeforeStop) switch_example (λ w d g. set_row g) set_back

induction_back : (w : List Spot) (c : tree.ProofCommand) → ProofRow proof.Induction w c → (d : List ℕ) × (Sign on_word ▸ Numbers) w d × (tree.induction d ≡ c)
induction_back _ _ (induction_row {ns = ns} h) = (ns, h, refl)

pub induction : TwoParts (Sign on_word) Anything Numbers (ProofRow proof.Induction) BeforeStop (λ u ns. tree.induction ns)
induction = two_parts (λ (u : Unit {0}) ns. ns) (λ ns. tree.induction ns) (Sign on_word) Anything Numbers (ProofRow proof.Induction) BeforeStop (any Numbers BeforeStop) numbers_example (λ w d g. induction_row g) induction_back

case_back : (w : List Spot) (c : tree.ProofCommand) → ProofRow proof.Case w c → (d : List ℕ × Bool) × (Name ▹ Optional false Keep) w d × (tree.case d.0 d.1 ≡ c)
case_back _ _ (case_row {x = x} {keep = k} h) = ((x, k), h, refl)

pub case : TwoParts Name Anything (Optional false Keep) (ProofRow proof.Case) BeforeStop (λ x keep. tree.case x keep)
case = two_parts (λ x keep. (x, keep)) (λ d. tree.case d.0 d.1) Name Anything (Optional false Keep) (ProofRow proof.Case) BeforeStop (any (Optional false Keep) BeforeStop) (left_out_example false Keep) (λ w d g. case_row g) case_back

apply_back : (w : List Spot) (c : tree.ProofCommand) → ProofRow proof.Apply w c → (d : (List ℕ × List tree.Argument) × List tree.Instance) × (Name ▹ Optional [] Arguments ▹ Optional [] Instances) w d × (tree.apply d.0.0 d.0.1 d.1 ≡ c)
apply_back _ _ (apply_row {x = x} {vs = vs} {is = is} h) = (((x, vs), is), h, refl)

pub apply : TwoParts (Name ▹ Optional [] Arguments) ArgumentsEnd (Optional [] Instances) (ProofRow proof.Apply) BeforeStop (λ a is. tree.apply a.0 a.1 is)
apply = two_parts (λ a is. (a, is)) (λ d. tree.apply d.0.0 d.0.1 d.1) (Name ▹ Optional [] Arguments) ArgumentsEnd (Optional [] Instances) (ProofRow proof.Apply) BeforeStop instances_or_stop (left_out_example [] Instances) (λ w d g. apply_row g) apply_back

backchain_back : (w : List Spot) (c : tree.ProofCommand) → ProofRow proof.Backchain w c → (d : List ℕ × List tree.Instance) × (Name ▹ Optional [] Instances) w d × (tree.backchain d.0 d.1 ≡ c)
backchain_back _ _ (backchain_row {x = x} {is = is} h) = ((x, is), h, refl)

pub backchain : TwoParts Name Anything (Optional [] Instances) (ProofRow proof.Backchain) BeforeStop (λ x is. tree.backchain x is)
backchain = two_parts (λ x is. (x, is)) (λ d. tree.backchain d.0 d.1) Name Anything (Optional [] Instances) (ProofRow proof.Backchain) BeforeStop (any (Optional [] Instances) BeforeStop) (left_out_example [] Instances) (λ w d g. backchain_row g) backchain_back

inst_back : (w : List Spot) (c : tree.ProofCommand) → ProofRow proof.Inst w c → (d : List ℕ × List tree.Instance) × (Name ◂ Sign with_word ▹ InstanceList) w d × (tree.inst d.0 d.1 ≡ c)
inst_back _ _ (inst_row {x = x} {is = is} h) = ((x, is), h, refl)

pub inst : TwoParts (Name ◂ Sign with_word) Anything InstanceList (ProofRow proof.Inst) BeforeStop (λ x is. tree.inst x is)
inst = two_parts (λ x is. (x, is)) (λ d. tree.inst d.0 d.1) (Name ◂ Sign with_word) Anything InstanceList (ProofRow proof.Inst) BeforeStop (any InstanceList BeforeStop) instance_list_example (λ w d g. inst_row g) inst_back

cut_back : (w : List Spot) (c : tree.ProofCommand) → ProofRow proof.Cut w c → (d : List ℕ × List ℕ) × (Name ◂ Sign with_word ▹ Name) w d × (tree.cut d.0 d.1 ≡ c)
cut_back _ _ (cut_row {x = x} {y = y} h) = ((x, y), h, refl)

pub cut : TwoParts (Name ◂ Sign with_word) Anything Name (ProofRow proof.Cut) BeforeStop (λ x y. tree.cut x y)
cut = two_parts (λ x y. (x, y)) (λ d. tree.cut d.0 d.1) (Name ◂ Sign with_word) Anything Name (ProofRow proof.Cut) BeforeStop (any Name BeforeStop) name_example (λ w d g. cut_row g) cut_back

rename_back : (w : List Spot) (c : tree.ProofCommand) → ProofRow proof.Rename w c → (d : List ℕ × List ℕ) × (Name ◂ Sign to_word ▹ Name) w d × (tree.rename d.0 d.1 ≡ c)
rename_back _ _ (rename_row {x = x} {y = y} h) = ((x, y), h, refl)

pub rename : TwoParts (Name ◂ Sign to_word) Anything Name (ProofRow proof.Rename) BeforeStop (λ x y. tree.rename x y)
rename = two_parts (λ x y. (x, y)) (λ d. tree.rename d.0 d.1) (Name ◂ Sign to_word) Anything Name (ProofRow proof.Rename) BeforeStop (any Name BeforeStop) name_example (λ w d g. rename_row g) rename_back

monotone_back : (w : List Spot) (c : tree.ProofCommand) → ProofRow proof.Monotone w c → (d : List ℕ × Tree) × (Name ◂ Sign with_word ▹ Expression) w d × (tree.monotone d.0 d.1 ≡ c)
monotone_back _ _ (monotone_row {x = x} {e = e} h) = ((x, e), h, refl)

pub monotone : TwoParts (Name ◂ Sign with_word) Anything Expression (ProofRow proof.Monotone) BeforeStop (λ x e. tree.monotone x e)
monotone = two_parts (λ x e. (x, e)) (λ d. tree.monotone d.0 d.1) (Name ◂ Sign with_word) Anything Expression (ProofRow proof.Monotone) BeforeStop (any Expression BeforeStop) expression_example (λ w d g. monotone_row g) monotone_back

permute_back : (w : List Spot) (c : tree.ProofCommand) → ProofRow proof.Permute w c → (d : List ℕ × Option (List ℕ)) × (Nominals ▹ OptionalName) w d × (tree.permute d.0 d.1 ≡ c)
permute_back _ _ (permute_row {ns = ns} {x = x} h) = ((ns, x), h, refl)

pub permute : TwoParts Nominals Anything OptionalName (ProofRow proof.Permute) BeforeStop (λ ns x. tree.permute ns x)
permute = two_parts (λ ns x. (ns, x)) (λ d. tree.permute d.0 d.1) Nominals Anything OptionalName (ProofRow proof.Permute) BeforeStop (any OptionalName BeforeStop) (left_out_example None (Valued Some Name)) (λ w d g. permute_row g) permute_back
