-- A list of tokens is the text of one command at most.
use Rattle.std.proofs.Common.{◌≡◌, ℕ, List, [], ◌∷◌, ◌++◌, true, false, Option, Some, None, refl, ap, sym, ◌∙◌, subst, codes, ◌⊎◌, inl, inr}
use Rattle.ab_grammar.specs.declared.Infix.TheVariants.{Equal}
use Rattle.ab_grammar.specs.declared.head.Head.{Head}
use Rattle.ab_grammar.specs.declared.head.Head.TheVariants as head
use Rattle.ab_grammar.specs.declared.head.ProofHead.{ProofHead}
use Rattle.ab_grammar.specs.declared.head.ProofHead.TheVariants as proof
use Rattle.ab_grammar.specs.Token.{Token, Other, word, sign, left_paren, right_paren, comma, colon, other, stop, semicolon, becomes, star, by_word, to_word, with_word, on_word, type_word}
use Rattle.ab_grammar.specs.Nesting.{Spot}
use Rattle.ab_grammar.specs.Tree.{Tree}
use Rattle.ab_grammar.specs.Language.{tokens_of, Key, the_key, Expression, TypeExpression, Accepted}
use Rattle.ab_grammar.proofs.Following.{first, Follow, follow, Anything, Followed, by_comma, by_other, Comes, Except, Showing, Without, BeforeStop, ClauseEnds, DepthEnds, ArgumentsEnd}
use Rattle.ab_grammar.specs.CommandTrees as tree
use Rattle.ab_grammar.specs.CommandForms.{One, one, Nothing, nothing, joined, Valued, valued, Optional, left_out, present, Many, OneOrMore, ◌▹◌, ◌▸◌, ◌◂◌}
use Rattle.ab_grammar.specs.CommandTable.{ShowsName, shows_name, ShowsDeclared, ShowsNominal, shows_nominal, ShowsArgument, shows_named, shows_hole, ShowsNumber, shows_number, ShowsDepth, shows_depth, ShowsLimit, ShowsText, ShowsLabel, StandsAnywhere, stands_at, Name, DeclaredName, DeclaredNames, Word, Sign, Definiendum, defined_of, Definienda, ClauseBody, ClauseForm, clause_of, Clauses, Definition, InstanceForm, instance_of, InstanceList, Instances, Arguments, Keep, kept, Nominals, OptionalName, OptionalDepth, OptionalLimit, Switch, switched_on, switched_off, Row, kind_row, typed_row, define_row, codefine_row, theorem_row, specification_row, query_row, show_row, quit_row, set_row, back_row, reset_row, undo_row, abort_row, ProofRow, intros_row, induction_row, coinduction_row, case_row, apply_row, backchain_row, cut_row, inst_row, monotone_row, search_row, skip_row, split_row, split_all_row, left_row, right_row, exists_row, witness_row, unfold_row, assert_row, clear_row, rename_row, permute_row, Opens, OpensProof, LabelledForm, labelled_form, CommandForm, plain, unlabelled, labelled, CommandText}
use Rattle.ab_grammar.proofs.Shown.{one_name, one_declared, one_nominal, one_argument, one_number, one_depth, one_limit, one_text, one_placed, one_label}
use Rattle.ab_grammar.proofs.Choosing.{key_begins, shown_by}
use Rattle.ab_grammar.proofs.Beginnings.{begins_no_other, begins_no_comma, expression_begins, type_begins, followed_by, followed_by_stop}
use Rattle.ab_grammar.proofs.Readers.{sure_expression, sure_type}
use Rattle.ab_grammar.proofs.Heads.{one_head, one_proof_head, plain_no_proof, plain_no_label, proof_no_label}
use Rattle.ab_grammar.proofs.Lists.{regroup}
use Rattle.ab_grammar.proofs.Rows.{depth_follows, depth_no_on, limit_follows, limit_no_to}
use Rattle.ab_grammar.proofs.Sure.{Sure, Never, sure_one, sure_key, sure_nothing, sure_valued, sure_fewer, sure_joined, sure_then, sure_optional, sure_many, sure_some, sure_separated, keyed_first, never_keyed}

-- What follows

key_first : (k : Token) (F : List Token → Type 0) (r : List Token) → Follow (Key k) F r → Comes k r
key_first k F _ (follow {vs = vs} {r = r} {b = u} h f) = key_begins k vs u r h

stop_not : (k : Token) → (Some (other stop) ≡ Some k → ⊥) → (r : List Token) → BeforeStop r → Except k r
stop_not k n r f e = n (sym f ∙ e)

clause_end_followed : (r : List Token) → ClauseEnds r → Followed r
clause_end_followed r (inl e) = followed_by r (other semicolon) e (by_other semicolon)
clause_end_followed r (inr e) = followed_by_stop r e

comma_or_by : (r : List Token) → (Comes comma r) ⊎ Comes (other by_word) r → Followed r
comma_or_by r (inl e) = followed_by r comma e by_comma
comma_or_by r (inr e) = followed_by r (other by_word) e (by_other by_word)

comma_or_stop : (r : List Token) → (Comes comma r) ⊎ BeforeStop r → Followed r
comma_or_stop r (inl e) = followed_by r comma e by_comma
comma_or_stop r (inr e) = followed_by_stop r e

body_followed : (r : List Token) → Follow ClauseBody ClauseEnds r → Followed r
body_followed _ (follow {vs = vs} {r = r} {b = b} h f) = from_body vs b h
  where
    from_body : (v : List Spot) (b : Option Tree) → ClauseBody v b → Followed (tokens_of v ++ r)
    from_body _ _ left_out = clause_end_followed r f
    from_body _ _ (present (valued {us = u} {a = t} g)) = followed_by _ (other becomes) (keyed_first (other becomes) Expression u t r g) (by_other becomes)

instances_follow : (r : List Token) → Follow (Optional [] Instances) BeforeStop r → ArgumentsEnd r
instances_follow _ (follow {vs = vs} {r = r} {b = is} h f) = from_instances vs is h
  where
    from_instances : (v : List Spot) (is : List tree.Instance) → Optional [] Instances v is → ArgumentsEnd (tokens_of v ++ r)
    from_instances _ _ left_out = inr f
    from_instances v is (present g) = inl (keyed_first (other with_word) InstanceList v is r g)

-- Parts

pub sure_name : (F : List Token → Type 0) → Sure Name F
sure_name F = sure_one ShowsName F one_name

sure_declared : (F : List Token → Type 0) → Sure DeclaredName F
sure_declared F = sure_one ShowsDeclared F one_declared

pub sure_word : (x : List ℕ) (F : List Token → Type 0) → Sure (Word x) F
sure_word x F = sure_one (StandsAnywhere (word x)) F (one_placed (word x))

sure_expression_before_stop : Sure Expression BeforeStop
sure_expression_before_stop = sure_fewer Expression Followed BeforeStop followed_by_stop sure_expression

pub sure_names : Sure DeclaredNames (Except comma)
sure_names = sure_separated comma DeclaredName Anything (Except comma) (λ r f. tt) (λ r f e. f e) (sure_declared Anything)

sure_definiendum : Sure Definiendum Followed
sure_definiendum = sure_valued defined_of (DeclaredName ◂ Key colon ▹ TypeExpression) Followed
    (sure_then (λ x A. (x, A)) (DeclaredName ◂ Key colon) TypeExpression Followed (sure_then (λ x u. x) DeclaredName (Key colon) Anything (sure_declared Anything) (sure_key colon Anything)) sure_type)

sure_definienda : Sure Definienda (Comes (other by_word))
sure_definienda = sure_separated comma Definiendum Followed (Comes (other by_word)) comma_or_by (λ r f e. let bad : Some (other by_word) ≡ Some comma = sym f ∙ e in absurd (cc)) sure_definiendum

becomes_apart : (r : List Token) → ClauseEnds r → Except (other becomes) r
becomes_apart r (inl f) e = let bad : Some (other semicolon) ≡ Some (other becomes) = sym f ∙ e in absurd (cc)
becomes_apart r (inr f) e = let bad : Some (other stop) ≡ Some (other becomes) = sym f ∙ e in absurd (cc)

never_valued : {A B : Type 0} (f : A → B) (G : List Spot → A → Type 0) (F : List Token → Type 0) → Never G F → Never (Valued f G) F
never_valued f G F n _ _ s r (valued {us = v} {a = a} g) k e = n v a s r g k e

sure_body : Sure ClauseBody ClauseEnds
sure_body = sure_optional None (Valued Some (Sign becomes ▸ Expression)) ClauseEnds
    (sure_valued Some (Sign becomes ▸ Expression) ClauseEnds (sure_then (λ u e. e) (Sign becomes) Expression ClauseEnds (sure_key (other becomes) Anything) (sure_fewer Expression Followed ClauseEnds clause_end_followed sure_expression)))
    (never_valued Some (Sign becomes ▸ Expression) ClauseEnds (never_keyed (other becomes) Expression ClauseEnds becomes_apart))

sure_clause : Sure ClauseForm ClauseEnds
sure_clause = sure_valued clause_of (Expression ▹ ClauseBody) ClauseEnds (sure_joined (λ e b. (e, b)) Expression ClauseBody Followed ClauseEnds body_followed sure_expression sure_body)

sure_clauses : Sure Clauses BeforeStop
sure_clauses = sure_separated (other semicolon) ClauseForm ClauseEnds BeforeStop (λ r f. f) (stop_not (other semicolon) (λ e. absurd (cc))) sure_clause

never_clauses : Never Clauses BeforeStop
never_clauses _ _ s r (joined {us = u} {vs = x} {a = c} g h) f e = from_clause u c g (e ∙ regroup u x s)
  where
    from_clause : (u : List Spot) (c : tree.Clause) → ClauseForm u c → r ≡ tokens_of u ++ (tokens_of x ++ s) → ⊥
    from_clause _ _ (valued (joined {us = w} {vs = y} {a = t} d b)) q =
        begins_no_other _ stop (expression_begins w t (tokens_of y ++ (tokens_of x ++ s)) d) (sym (ap first (q ∙ regroup w y (tokens_of x ++ s))) ∙ f)

sure_definition : Sure Definition BeforeStop
sure_definition = sure_then (λ ds cs. (ds, cs)) (Definienda ◂ Sign by_word) (Optional [] Clauses) BeforeStop
    (sure_joined (λ ds u. ds) Definienda (Sign by_word) (Comes (other by_word)) Anything (λ r f. key_first (other by_word) Anything r f) sure_definienda (sure_key (other by_word) Anything))
    (sure_optional [] Clauses BeforeStop sure_clauses never_clauses)

sure_instance : Sure InstanceForm Followed
sure_instance = sure_valued instance_of (Name ◂ Key (sign Equal) ▹ Expression) Followed
    (sure_then (λ x e. (x, e)) (Name ◂ Key (sign Equal)) Expression Followed (sure_then (λ x u. x) Name (Key (sign Equal)) Anything (sure_name Anything) (sure_key (sign Equal) Anything)) sure_expression)

sure_instance_list : Sure InstanceList BeforeStop
sure_instance_list = sure_separated comma InstanceForm Followed BeforeStop comma_or_stop (stop_not comma (λ e. absurd (cc))) sure_instance

sure_instances : Sure (Optional [] Instances) BeforeStop
sure_instances = sure_optional [] Instances BeforeStop
    (sure_then (λ u is. is) (Sign with_word) InstanceList BeforeStop (sure_key (other with_word) Anything) sure_instance_list)
    (never_keyed (other with_word) InstanceList BeforeStop (stop_not (other with_word) (λ e. absurd (cc))))

-- a list of words ends before what is no word
never_shown : {A : Type 0} (Shows : Token → A → Type 0) (F : List Token → Type 0) → ((r : List Token) → F r → Without Shows r) → Never (One Shows) F
never_shown Shows F without _ b s r (one {k = k} p) f e = without r f k b (ap first e) p

no_name_at : (k : Token) (x : List ℕ) → ShowsName k x → Some (other stop) ≡ Some k → ⊥
no_name_at _ x (shows_name y p) e = absurd (cc)

no_name : (r : List Token) → BeforeStop r → Without ShowsName r
no_name r f k x e p = no_name_at k x p (sym f ∙ e)

no_argument_at : (k : Token) (a : tree.Argument) (o : Other) → ShowsArgument k a → Some (other o) ≡ Some k → ⊥
no_argument_at _ a o (shows_named x p n) e = absurd (cc)
no_argument_at _ a o (shows_hole p) e = absurd (cc)

no_argument : (r : List Token) → ArgumentsEnd r → Without ShowsArgument r
no_argument r (inl f) k a e p = no_argument_at k a with_word p (sym f ∙ e)
no_argument r (inr f) k a e p = no_argument_at k a stop p (sym f ∙ e)

no_nominal_at : (k : Token) (n : ℕ) → ShowsNominal k n → Some right_paren ≡ Some k → ⊥
no_nominal_at _ n (shows_nominal x p m h) e = absurd (cc)

no_nominal : (r : List Token) → Comes right_paren r → Without ShowsNominal r
no_nominal r f k n e p = no_nominal_at k n p (sym f ∙ e)

no_depth_at : (k : Token) (n : ℕ) → ShowsDepth k n → Some (other stop) ≡ Some k → ⊥
no_depth_at _ n (shows_depth m h) e = absurd (cc)

no_number_at : (k : Token) (n : ℕ) → ShowsNumber k n → Some (other stop) ≡ Some k → ⊥
no_number_at _ n (shows_number m) e = absurd (cc)

to_apart : (r : List Token) → ArgumentsEnd r → Except (other to_word) r
to_apart r (inl f) e = let bad : Some (other with_word) ≡ Some (other to_word) = sym f ∙ e in absurd (cc)
to_apart r (inr f) e = let bad : Some (other stop) ≡ Some (other to_word) = sym f ∙ e in absurd (cc)

sure_arguments : Sure (Optional [] Arguments) ArgumentsEnd
sure_arguments = sure_optional [] Arguments ArgumentsEnd
    (sure_then (λ u vs. vs) (Sign to_word) (OneOrMore (One ShowsArgument)) ArgumentsEnd (sure_key (other to_word) Anything)
    (sure_some (One ShowsArgument) ArgumentsEnd (sure_one ShowsArgument (Follow (Many (One ShowsArgument)) ArgumentsEnd) one_argument) (never_shown ShowsArgument ArgumentsEnd no_argument)))
    (never_keyed (other to_word) (OneOrMore (One ShowsArgument)) ArgumentsEnd to_apart)

sure_keep : Sure (Optional false Keep) BeforeStop
sure_keep = sure_optional false Keep BeforeStop
    (sure_valued kept (Key left_paren ▸ (Word (codes "keep") ▸ Key right_paren)) BeforeStop
    (sure_then (λ u v. v) (Key left_paren) (Word (codes "keep") ▸ Key right_paren) BeforeStop (sure_key left_paren Anything)
    (sure_then (λ u v. v) (Word (codes "keep")) (Key right_paren) BeforeStop (sure_word (codes "keep") Anything) (sure_key right_paren BeforeStop))))
    (never_valued kept (Key left_paren ▸ (Word (codes "keep") ▸ Key right_paren)) BeforeStop (never_keyed left_paren (Word (codes "keep") ▸ Key right_paren) BeforeStop (stop_not left_paren (λ e. absurd (cc)))))

sure_nominals : Sure Nominals Anything
sure_nominals = sure_joined (λ ns u. ns) (Key left_paren ▸ OneOrMore (One ShowsNominal)) (Key right_paren) (Comes right_paren) Anything (λ r f. key_first right_paren Anything r f)
    (sure_then (λ u ns. ns) (Key left_paren) (OneOrMore (One ShowsNominal)) (Comes right_paren) (sure_key left_paren Anything)
    (sure_some (One ShowsNominal) (Comes right_paren) (sure_one ShowsNominal (Follow (Many (One ShowsNominal)) (Comes right_paren)) one_nominal) (never_shown ShowsNominal (Comes right_paren) no_nominal)))
    (sure_key right_paren Anything)

sure_optional_name : Sure OptionalName BeforeStop
sure_optional_name = sure_optional None (Valued Some Name) BeforeStop (sure_valued Some Name BeforeStop (sure_name BeforeStop)) (never_valued Some Name BeforeStop (never_shown ShowsName BeforeStop no_name))

sure_switch : Sure Switch BeforeStop
sure_switch _ _ _ _ r s (switched_on the_key) (switched_on the_key) k l e = (refl, refl)
sure_switch u v _ _ r s (switched_off g) (switched_off h) k l e = let p = sure_word (codes "off") BeforeStop u v tt tt r s g h k l e in (p.0, refl)
sure_switch _ v _ _ r s (switched_on the_key) (switched_off h) k l e = absurd (apart v h e)
  where
    apart : (v : List Spot) → Word (codes "off") v tt → other on_word ∷ r ≡ tokens_of v ++ s → ⊥
    apart _ (one (stands_at p)) q = absurd (cc)
sure_switch u _ _ _ r s (switched_off g) (switched_on the_key) k l e = absurd (apart u g (sym e))
  where
    apart : (v : List Spot) → Word (codes "off") v tt → other on_word ∷ s ≡ tokens_of v ++ r → ⊥
    apart _ (one (stands_at p)) q = absurd (cc)

sure_depth : Sure OptionalDepth DepthEnds
sure_depth = sure_optional 5 (Sign on_word ▸ One ShowsDepth) DepthEnds
    (sure_then (λ (u : Unit {0}) n. n) (Sign on_word) (One ShowsDepth) DepthEnds (sure_key (other on_word) Anything) (sure_one ShowsDepth DepthEnds one_depth))
    (never_keyed (other on_word) (One ShowsDepth) DepthEnds depth_no_on)

sure_limit : Sure OptionalLimit BeforeStop
sure_limit = sure_optional 10 (Sign to_word ▸ One ShowsLimit) BeforeStop
    (sure_then (λ (u : Unit {0}) n. n) (Sign to_word) (One ShowsLimit) BeforeStop (sure_key (other to_word) Anything) (sure_one ShowsLimit BeforeStop one_limit))
    (never_keyed (other to_word) (One ShowsLimit) BeforeStop limit_no_to)

-- a name, a key, and a part
sure_named : {A : Type 0} (k : Token) (H : List Spot → A → Type 0) → Sure H BeforeStop → Sure (Name ◂ Key k ▹ H) BeforeStop
sure_named k H p = sure_then (λ x b. (x, b)) (Name ◂ Key k) H BeforeStop (sure_then (λ x u. x) Name (Key k) Anything (sure_name Anything) (sure_key k Anything)) p

-- Rows

sure_row : (h : Head) → Sure (Row h) BeforeStop
sure_row head.Kind u v _ _ r s (kind_row {xs = xs} g) (kind_row {xs = ys} h) k l e =
    let p = sure_joined (λ x (w : Unit {0}). x) DeclaredNames (Sign type_word) (Except comma) BeforeStop (λ r f q. let t = key_first (other type_word) BeforeStop r f in let bad : Some (other type_word) ≡ Some comma = sym t ∙ q in absurd (cc)) sure_names (sure_key (other type_word) BeforeStop) u v xs ys r s g h k l e in
    (p.0, ap tree.kinds (p.1))
sure_row head.Typed u v _ _ r s (typed_row {xs = xs} {A = A} g) (typed_row {xs = ys} {A = B} h) k l e =
    let p = sure_joined (λ x y. (x, y)) DeclaredNames TypeExpression (Except comma) BeforeStop names_then_type sure_names (sure_fewer TypeExpression Followed BeforeStop followed_by_stop sure_type) u v (xs, A) (ys, B) r s g h k l e in
    (p.0, ap (λ d. tree.constants d.0 d.1) (p.1))
  where
    names_then_type : (r : List Token) → Follow TypeExpression BeforeStop r → Except comma r
    names_then_type _ (follow {vs = w} {r = q} {b = C} t f) m = begins_no_comma _ (type_begins w C q t) m
sure_row head.Define u v _ _ r s (define_row {ds = ds} {cs = cs} g) (define_row {ds = es} {cs = fs} h) k l e = let p = sure_definition u v (ds, cs) (es, fs) r s g h k l e in (p.0, ap (λ d. tree.define true d.0 d.1) (p.1))
sure_row head.CoDefine u v _ _ r s (codefine_row {ds = ds} {cs = cs} g) (codefine_row {ds = es} {cs = fs} h) k l e = let p = sure_definition u v (ds, cs) (es, fs) r s g h k l e in (p.0, ap (λ d. tree.define false d.0 d.1) (p.1))
sure_row head.Theorem u v _ _ r s (theorem_row {x = x} {e = t} g) (theorem_row {x = y} {e = w} h) k l e = let p = sure_named colon Expression sure_expression_before_stop u v (x, t) (y, w) r s g h k l e in (p.0, ap (λ d. tree.theorem d.0 d.1) (p.1))
sure_row head.Specification u v _ _ r s (specification_row {x = x} g) (specification_row {x = y} h) k l e = let p = sure_one ShowsText BeforeStop one_text u v x y r s g h k l e in (p.0, ap tree.specification (p.1))
sure_row head.Query u v _ _ r s (query_row {e = t} {n = n} {m = m} g) (query_row {e = w} {n = i} {m = j} h) k l e =
    let p = sure_joined (λ a m. (a, m)) (Expression ▹ OptionalDepth) OptionalLimit DepthEnds BeforeStop limit_follows (sure_joined (λ t n. (t, n)) Expression OptionalDepth Followed DepthEnds depth_follows sure_expression sure_depth) sure_limit u v ((t, n), m) ((w, i), j) r s g h k l e in
    (p.0, ap (λ d. tree.query d.0.0 d.0.1 d.1) (p.1))
sure_row head.Show u v _ _ r s (show_row {x = x} g) (show_row {x = y} h) k l e = let p = sure_name BeforeStop u v x y r s g h k l e in (p.0, ap tree.show (p.1))
sure_row head.Quit u v _ _ r s (quit_row g) (quit_row h) k l e = ((sure_nothing BeforeStop u v tt tt r s g h k l e).0, refl)
sure_row head.Set u v _ _ r s (set_row {on = a} g) (set_row {on = b} h) k l e =
    let p = sure_then (λ (w : Unit {0}) on. on) (Word (codes "subgoals")) Switch BeforeStop (sure_word (codes "subgoals") Anything) sure_switch u v a b r s g h k l e in
    (p.0, ap tree.subgoals (p.1))
sure_row head.Back u v _ _ r s (back_row g) (back_row h) k l e = ((sure_nothing BeforeStop u v tt tt r s g h k l e).0, refl)
sure_row head.Reset u v _ _ r s (reset_row g) (reset_row h) k l e = ((sure_nothing BeforeStop u v tt tt r s g h k l e).0, refl)
sure_row head.Undo u v _ _ r s (undo_row g) (undo_row h) k l e = ((sure_nothing BeforeStop u v tt tt r s g h k l e).0, refl)
sure_row head.Abort u v _ _ r s (abort_row g) (abort_row h) k l e = ((sure_nothing BeforeStop u v tt tt r s g h k l e).0, refl)

nothing_or_star : {A : Type 0} (u v : List Spot) (r s : List Token) → Nothing u tt → Sign star v tt → BeforeStop r → tokens_of u ++ r ≡ tokens_of v ++ s → A
nothing_or_star _ _ r s nothing the_key k e = let bad : Some (other stop) ≡ Some (other star) = sym k ∙ ap first e in absurd (cc)

sure_proof_row : (h : ProofHead) → Sure (ProofRow h) BeforeStop
sure_proof_row proof.Intros u v _ _ r s (intros_row {xs = xs} g) (intros_row {xs = ys} h) k l e =
    let p = sure_many Name BeforeStop (sure_name (Follow (Many Name) BeforeStop)) (never_shown ShowsName BeforeStop no_name) u v xs ys r s g h k l e in (p.0, ap tree.intros (p.1))
sure_proof_row proof.Induction u v _ _ r s (induction_row {ns = ms} g) (induction_row {ns = ns} h) k l e =
    let p = sure_then (λ (w : Unit {0}) ns. ns) (Sign on_word) (OneOrMore (One ShowsNumber)) BeforeStop (sure_key (other on_word) Anything)
    (sure_some (One ShowsNumber) BeforeStop (sure_one ShowsNumber (Follow (Many (One ShowsNumber)) BeforeStop) one_number) (never_shown ShowsNumber BeforeStop (λ r f k n e q. no_number_at k n q (sym f ∙ e)))) u v ms ns r s g h k l e in
    (p.0, ap tree.induction (p.1))
sure_proof_row proof.Coinduction u v _ _ r s (coinduction_row g) (coinduction_row h) k l e = ((sure_nothing BeforeStop u v tt tt r s g h k l e).0, refl)
sure_proof_row proof.Case u v _ _ r s (case_row {x = x} {keep = a} g) (case_row {x = y} {keep = b} h) k l e =
    let p = sure_then (λ x keep. (x, keep)) Name (Optional false Keep) BeforeStop (sure_name Anything) sure_keep u v (x, a) (y, b) r s g h k l e in (p.0, ap (λ d. tree.case d.0 d.1) (p.1))
sure_proof_row proof.Apply u v _ _ r s (apply_row {x = x} {vs = a} {is = b} g) (apply_row {x = y} {vs = c} {is = d} h) k l e =
    let p = sure_joined (λ a is. (a, is)) (Name ▹ Optional [] Arguments) (Optional [] Instances) ArgumentsEnd BeforeStop instances_follow (sure_then (λ x vs. (x, vs)) Name (Optional [] Arguments) ArgumentsEnd (sure_name Anything) sure_arguments) sure_instances u v ((x, a), b) ((y, c), d) r s g h k l e in
    (p.0, ap (λ d. tree.apply d.0.0 d.0.1 d.1) (p.1))
sure_proof_row proof.Backchain u v _ _ r s (backchain_row {x = x} {is = a} g) (backchain_row {x = y} {is = b} h) k l e =
    let p = sure_then (λ x is. (x, is)) Name (Optional [] Instances) BeforeStop (sure_name Anything) sure_instances u v (x, a) (y, b) r s g h k l e in (p.0, ap (λ d. tree.backchain d.0 d.1) (p.1))
sure_proof_row proof.Cut u v _ _ r s (cut_row {x = x} {y = a} g) (cut_row {x = y} {y = b} h) k l e = let p = sure_named (other with_word) Name (sure_name BeforeStop) u v (x, a) (y, b) r s g h k l e in (p.0, ap (λ d. tree.cut d.0 d.1) (p.1))
sure_proof_row proof.Inst u v _ _ r s (inst_row {x = x} {is = a} g) (inst_row {x = y} {is = b} h) k l e = let p = sure_named (other with_word) InstanceList sure_instance_list u v (x, a) (y, b) r s g h k l e in (p.0, ap (λ d. tree.inst d.0 d.1) (p.1))
sure_proof_row proof.Monotone u v _ _ r s (monotone_row {x = x} {e = a} g) (monotone_row {x = y} {e = b} h) k l e = let p = sure_named (other with_word) Expression sure_expression_before_stop u v (x, a) (y, b) r s g h k l e in (p.0, ap (λ d. tree.monotone d.0 d.1) (p.1))
sure_proof_row proof.Search u v _ _ r s (search_row {n = m} g) (search_row {n = n} h) k l e =
    let p = sure_optional 5 (One ShowsDepth) BeforeStop (sure_one ShowsDepth BeforeStop one_depth) (never_shown ShowsDepth BeforeStop (λ r f k n e q. no_depth_at k n q (sym f ∙ e))) u v m n r s g h k l e in (p.0, ap tree.search (p.1))
sure_proof_row proof.Skip u v _ _ r s (skip_row g) (skip_row h) k l e = ((sure_nothing BeforeStop u v tt tt r s g h k l e).0, refl)
sure_proof_row proof.Split u v _ _ r s (split_row g) (split_row h) k l e = ((sure_nothing BeforeStop u v tt tt r s g h k l e).0, refl)
sure_proof_row proof.Split u v _ _ r s (split_all_row g) (split_all_row h) k l e = ((sure_key (other star) BeforeStop u v tt tt r s g h k l e).0, refl)
sure_proof_row proof.Split u v _ _ r s (split_row g) (split_all_row h) k l e = nothing_or_star u v r s g h k e
sure_proof_row proof.Split u v _ _ r s (split_all_row g) (split_row h) k l e = nothing_or_star v u s r h g l (sym e)
sure_proof_row proof.Left u v _ _ r s (left_row g) (left_row h) k l e = ((sure_nothing BeforeStop u v tt tt r s g h k l e).0, refl)
sure_proof_row proof.Right u v _ _ r s (right_row g) (right_row h) k l e = ((sure_nothing BeforeStop u v tt tt r s g h k l e).0, refl)
sure_proof_row proof.Exists u v _ _ r s (exists_row {e = a} g) (exists_row {e = b} h) k l e = let p = sure_expression_before_stop u v a b r s g h k l e in (p.0, ap tree.exists (p.1))
sure_proof_row proof.Witness u v _ _ r s (witness_row {e = a} g) (witness_row {e = b} h) k l e = let p = sure_expression_before_stop u v a b r s g h k l e in (p.0, ap tree.exists (p.1))
sure_proof_row proof.Unfold u v _ _ r s (unfold_row g) (unfold_row h) k l e = ((sure_nothing BeforeStop u v tt tt r s g h k l e).0, refl)
sure_proof_row proof.Assert u v _ _ r s (assert_row {e = a} g) (assert_row {e = b} h) k l e = let p = sure_expression_before_stop u v a b r s g h k l e in (p.0, ap tree.assert (p.1))
sure_proof_row proof.Clear u v _ _ r s (clear_row {xs = xs} g) (clear_row {xs = ys} h) k l e =
    let p = sure_some Name BeforeStop (sure_name (Follow (Many Name) BeforeStop)) (never_shown ShowsName BeforeStop no_name) u v xs ys r s g h k l e in (p.0, ap tree.clear (p.1))
sure_proof_row proof.Rename u v _ _ r s (rename_row {x = x} {y = a} g) (rename_row {x = y} {y = b} h) k l e = let p = sure_named (other to_word) Name (sure_name BeforeStop) u v (x, a) (y, b) r s g h k l e in (p.0, ap (λ d. tree.rename d.0 d.1) (p.1))
sure_proof_row proof.Permute u v _ _ r s (permute_row {ns = m} {x = a} g) (permute_row {ns = n} {x = b} h) k l e =
    let p = sure_then (λ ns x. (ns, x)) Nominals OptionalName BeforeStop sure_nominals sure_optional_name u v (m, a) (n, b) r s g h k l e in (p.0, ap (λ d. tree.permute d.0 d.1) (p.1))

-- Commands

sure_opened : (h : Head) → Sure (One (Opens h) ▸ Row h) BeforeStop
sure_opened h = sure_then (λ u c. c) (One (Opens h)) (Row h) BeforeStop (sure_one (Opens h) Anything (λ k a b p q. refl)) (sure_row h)

sure_opened_proof : (h : ProofHead) → Sure (One (OpensProof h) ▸ ProofRow h) BeforeStop
sure_opened_proof h = sure_then (λ u c. c) (One (OpensProof h)) (ProofRow h) BeforeStop (sure_one (OpensProof h) Anything (λ k a b p q. refl)) (sure_proof_row h)

-- with which token a form begins
opens_first : (h : Head) (u : List Spot) (c : tree.Command) (r : List Token) → (One (Opens h) ▸ Row h) u c → Showing (Opens h) tt (tokens_of u ++ r)
opens_first h _ _ r (joined (one {k = k} p) g) = (k, refl, p)

proof_first : (h : ProofHead) (u : List Spot) (c : tree.ProofCommand) (r : List Token) → (One (OpensProof h) ▸ ProofRow h) u c → Showing (OpensProof h) tt (tokens_of u ++ r)
proof_first h _ _ r (joined (one {k = k} p) g) = (k, refl, p)

label_first : (u : List Spot) (d : List ℕ × tree.ProofCommand) (r : List Token) → (One ShowsLabel ◂ Key colon ▹ LabelledForm) u d → Showing ShowsLabel d.0 (tokens_of u ++ r)
label_first _ _ r (joined (joined (one {k = k} p) c) g) = (k, refl, p)

abbrev OpenedProof : ProofHead → List Spot → tree.ProofCommand → Type 0
OpenedProof h = One (OpensProof h) ▸ ProofRow h

abbrev Labelled : List Spot → List ℕ × tree.ProofCommand → Type 0
Labelled = One ShowsLabel ◂ Key colon ▹ LabelledForm

sure_proof_commands : (h j : ProofHead) (u v : List Spot) (c d : tree.ProofCommand) (r s : List Token) → OpenedProof h u c → OpenedProof j v d → BeforeStop r → BeforeStop s → tokens_of u ++ r ≡ tokens_of v ++ s → (u ≡ v) × (c ≡ d)
sure_proof_commands h j u v c d r s g i k l e =
    let q = proof_first j v d s i in
    let same : h ≡ j = one_proof_head h j q.0 (shown_by (OpensProof h) q.0 tt (tokens_of u ++ r) (proof_first h u c r g) (ap first e ∙ q.1)) q.2 in
    sure_opened_proof j u v c d r s (subst (λ w. OpenedProof w u c) same g) i k l e

sure_labelled_form : Sure LabelledForm BeforeStop
sure_labelled_form u v c d r s (labelled_form h t g) (labelled_form j w i) k l e = sure_proof_commands h j u v c d r s g i k l e

sure_labelled : Sure Labelled BeforeStop
sure_labelled = sure_then (λ x c. (x, c)) (One ShowsLabel ◂ Key colon) LabelledForm BeforeStop (sure_then (λ x w. x) (One ShowsLabel) (Key colon) Anything (sure_one ShowsLabel Anything one_label) (sure_key colon Anything)) sure_labelled_form

sure_form : Sure CommandForm BeforeStop
sure_form u v _ _ r s (plain {c = c} h g) (plain {c = d} j i) k l e =
    let q = opens_first j v d s i in
    let same : h ≡ j = one_head h j q.0 (shown_by (Opens h) q.0 tt (tokens_of u ++ r) (opens_first h u c r g) (ap first e ∙ q.1)) q.2 in
    sure_opened j u v c d r s (subst (λ w. (One (Opens w) ▸ Row w) u c) same g) i k l e
sure_form u v _ _ r s (plain {c = c} h g) (unlabelled {c = d} j i) k l e =
    let q = proof_first j v d s i in
    absurd (plain_no_proof h j q.0 (shown_by (Opens h) q.0 tt (tokens_of u ++ r) (opens_first h u c r g) (ap first e ∙ q.1)) q.2)
sure_form u v _ _ r s (plain {c = c} h g) (labelled {x = x} {c = d} i) k l e =
    let q = label_first v (x, d) s i in
    absurd (plain_no_label h q.0 x q.2 (shown_by (Opens h) q.0 tt (tokens_of u ++ r) (opens_first h u c r g) (ap first e ∙ q.1)))
sure_form u v _ _ r s (unlabelled {c = c} h g) (plain {c = d} j i) k l e =
    let q = opens_first j v d s i in
    absurd (plain_no_proof j h q.0 q.2 (shown_by (OpensProof h) q.0 tt (tokens_of u ++ r) (proof_first h u c r g) (ap first e ∙ q.1)))
sure_form u v _ _ r s (unlabelled {c = c} h g) (unlabelled {c = d} j i) k l e = let p = sure_proof_commands h j u v c d r s g i k l e in (p.0, ap (λ w. tree.in_proof None w) (p.1))
sure_form u v _ _ r s (unlabelled {c = c} h g) (labelled {x = x} {c = d} i) k l e =
    let q = label_first v (x, d) s i in
    absurd (proof_no_label h q.0 x q.2 (shown_by (OpensProof h) q.0 tt (tokens_of u ++ r) (proof_first h u c r g) (ap first e ∙ q.1)))
sure_form u v _ _ r s (labelled {x = x} {c = c} g) (plain {c = d} j i) k l e =
    let q = opens_first j v d s i in
    absurd (plain_no_label j q.0 x (shown_by ShowsLabel q.0 x (tokens_of u ++ r) (label_first u (x, c) r g) (ap first e ∙ q.1)) q.2)
sure_form u v _ _ r s (labelled {x = x} {c = c} g) (unlabelled {c = d} j i) k l e =
    let q = proof_first j v d s i in
    absurd (proof_no_label j q.0 x (shown_by ShowsLabel q.0 x (tokens_of u ++ r) (label_first u (x, c) r g) (ap first e ∙ q.1)) q.2)
sure_form u v _ _ r s (labelled {x = x} {c = c} g) (labelled {x = y} {c = d} i) k l e = let p = sure_labelled u v (x, c) (y, d) r s g i k l e in (p.0, ap (λ w. tree.in_proof (Some w.0) w.1) (p.1))

sure_command : Sure CommandText Anything
sure_command = sure_joined (λ c u. c) CommandForm (Sign stop) BeforeStop Anything (λ r f. key_first (other stop) Anything r f) sure_form (sure_key (other stop) Anything)

pub one_command : (ts : List Token) (c d : tree.Command) → Accepted CommandText ts c → Accepted CommandText ts d → c ≡ d
one_command ts c d p q = (sure_command (p.read) (q.read) c d [] [] (p.text) (q.text) tt tt (ap (λ (w : List Token). w ++ []) (p.tokens ∙ sym (q.tokens)))).1
