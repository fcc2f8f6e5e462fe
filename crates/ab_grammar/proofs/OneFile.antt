-- A list of tokens is the text of one title at most, and of one item.
use Rattle.std.proofs.Common.{◌≡◌, ℕ, List, [], ◌++◌, Some, None, ap, sym, ◌∙◌, codes, ◌⊎◌, inl, inr}
use Rattle.ab_grammar.specs.declared.file.FileKind.{FileKind}
use Rattle.ab_grammar.specs.declared.file.FileKind.TheVariants.{Signature, Module}
use Rattle.ab_grammar.specs.Token.{Token, word, comma, other, stop, from, type_word}
use Rattle.ab_grammar.specs.Nesting.{Spot}
use Rattle.ab_grammar.specs.Language.{tokens_of, Key, Expression, TypeExpression, Accepted}
use Rattle.ab_grammar.specs.CommandTrees.{Clause}
use Rattle.ab_grammar.specs.CommandForms.{◌▹◌, ◌▸◌, ◌◂◌, Separated}
use Rattle.ab_grammar.specs.CommandTable.{Name, DeclaredNames, Word, Sign, clause_of}
use Rattle.ab_grammar.specs.FileTrees.{Item, kinds, constants, clause, accumulation}
use Rattle.ab_grammar.specs.FileTable.{Names, title_word, TitleText, Goals, goal_of, GoalBody, ProgramClause, BeginsAccumulation, ItemForm, kinds_item, constants_item, signatures_item, modules_item, clause_item, ItemText}
use Rattle.ab_grammar.proofs.Following.{first, Anything, Followed, by_comma, Comes, Except, BeforeStop}
use Rattle.ab_grammar.proofs.Beginnings.{followed_by, followed_by_stop}
use Rattle.ab_grammar.proofs.Readers.{sure_expression, sure_type}
use Rattle.ab_grammar.proofs.Rows.{key_in_front, keyed_in_front, names_then_type, names_then_type_word}
use Rattle.ab_grammar.proofs.FileRows.{body_follows, word_in_front, kind_no_accumulation, accumulates, clause_in_front}
use Rattle.ab_grammar.proofs.OneCommand.{sure_name, sure_word, sure_names}
use Rattle.ab_grammar.proofs.Sure.{Sure, sure_key, sure_valued, sure_fewer, sure_joined, sure_then, sure_optional, sure_separated, never_keyed}

-- Titles

sure_title : (f : FileKind) → Sure (TitleText f) Anything
sure_title f = sure_then (λ (u : Unit {0}) x. x) (Word (title_word f)) (Name ◂ Sign stop) Anything (sure_word (title_word f) Anything)
    (sure_then (λ x (u : Unit {0}). x) Name (Sign stop) Anything (sure_name Anything) (sure_key (other stop) Anything))

-- Parts

comma_or_stop : (r : List Token) → (Comes comma r) ⊎ BeforeStop r → Followed r
comma_or_stop r (inl e) = followed_by r comma e by_comma
comma_or_stop r (inr e) = followed_by_stop r e

stop_no_comma : (r : List Token) → BeforeStop r → Except comma r
stop_no_comma r f e = let bad : Some (other stop) ≡ Some comma = sym f ∙ e in absurd (cc)

stop_no_from : (r : List Token) → BeforeStop r → Except (other from) r
stop_no_from r f e = let bad : Some (other stop) ≡ Some (other from) = sym f ∙ e in absurd (cc)

sure_goals : Sure Goals BeforeStop
sure_goals = sure_valued goal_of (Separated (Key comma) Expression) BeforeStop (sure_separated comma Expression Followed BeforeStop comma_or_stop stop_no_comma sure_expression)

sure_body : Sure GoalBody BeforeStop
sure_body = sure_optional None (Sign from ▸ Goals) BeforeStop
    (sure_then (λ (u : Unit {0}) b. b) (Sign from) Goals BeforeStop (sure_key (other from) Anything) sure_goals)
    (never_keyed (other from) Goals BeforeStop stop_no_from)

sure_clause : Sure ProgramClause BeforeStop
sure_clause = sure_valued clause_of (Expression ▹ GoalBody) BeforeStop (sure_joined (λ e b. (e, b)) Expression GoalBody Followed BeforeStop body_follows sure_expression sure_body)

sure_file_names : Sure Names BeforeStop
sure_file_names = sure_separated comma Name Anything BeforeStop (λ r f. tt) stop_no_comma (sure_name Anything)

sure_accumulation : (x : List ℕ) → Sure (Word x ▸ Names) BeforeStop
sure_accumulation x = sure_then (λ (u : Unit {0}) xs. xs) (Word x) Names BeforeStop (sure_word x Anything) sure_file_names

sure_kinds : Sure (Word (codes "kind") ▸ (DeclaredNames ◂ Sign type_word)) BeforeStop
sure_kinds = sure_then (λ (u : Unit {0}) xs. xs) (Word (codes "kind")) (DeclaredNames ◂ Sign type_word) BeforeStop (sure_word (codes "kind") Anything)
    (sure_joined (λ xs (u : Unit {0}). xs) DeclaredNames (Sign type_word) (Except comma) BeforeStop names_then_type_word sure_names (sure_key (other type_word) BeforeStop))

sure_constants : Sure (Sign type_word ▸ (DeclaredNames ▹ TypeExpression)) BeforeStop
sure_constants = sure_then (λ (u : Unit {0}) d. d) (Sign type_word) (DeclaredNames ▹ TypeExpression) BeforeStop (sure_key (other type_word) Anything)
    (sure_joined (λ xs A. (xs, A)) DeclaredNames TypeExpression (Except comma) BeforeStop names_then_type sure_names (sure_fewer TypeExpression Followed BeforeStop followed_by_stop sure_type))

-- Items begin with different tokens

key_or_word : {A B C : Type 0} (G : List Spot → A → Type 0) (x : List ℕ) (H : List Spot → B → Type 0) (u v : List Spot) (a : A) (b : B) (r s : List Token) → (Sign type_word ▸ G) u a → (Word x ▸ H) v b → tokens_of u ++ r ≡ tokens_of v ++ s → C
key_or_word G x H u v a b r s g h e =
    let q = word_in_front x H v b s h in
    let bad : Some (other type_word) ≡ Some (word x q.0) = sym (keyed_in_front (other type_word) G u a r g) ∙ ap first e ∙ q.1 in
    absurd (cc)

two_words : {A B C : Type 0} (x y : List ℕ) (G : List Spot → A → Type 0) (H : List Spot → B → Type 0) (u v : List Spot) (a : A) (b : B) (r s : List Token) → (x ≡ y → ⊥) → (Word x ▸ G) u a → (Word y ▸ H) v b → tokens_of u ++ r ≡ tokens_of v ++ s → C
two_words x y G H u v a b r s n g h e =
    let p = word_in_front x G u a r g in
    let q = word_in_front y H v b s h in
    let both : Some (word x p.0) ≡ Some (word y q.0) = sym p.1 ∙ ap first e ∙ q.1 in
    let same : x ≡ y = cc in
    absurd (n same)

accumulation_or_clause : {C : Type 0} (u v : List Spot) (xs : List (List ℕ)) (c : Clause) (r s : List Token) → (Word (codes "accumulate") ▸ Names) u xs → ProgramClause v c → (BeginsAccumulation v → ⊥) → tokens_of u ++ r ≡ tokens_of v ++ s → C
accumulation_or_clause u v xs c r s g h n e =
    let p = word_in_front (codes "accumulate") Names u xs r g in
    absurd (n (accumulates v p.0 (clause_in_front v c s h ∙ sym (ap first e) ∙ p.1)))

sure_item : (f : FileKind) → Sure (ItemForm f) BeforeStop
sure_item Signature u v _ _ r s (kinds_item {xs = xs} g) (kinds_item {xs = ys} h) k l e = let p = sure_kinds u v xs ys r s g h k l e in (p.0, ap kinds p.1)
sure_item Signature u v _ _ r s (constants_item {xs = xs} {A = A} g) (constants_item {xs = ys} {A = B} h) k l e = let p = sure_constants u v (xs, A) (ys, B) r s g h k l e in (p.0, ap (λ d. constants d.0 d.1) p.1)
sure_item Signature u v _ _ r s (signatures_item {xs = xs} g) (signatures_item {xs = ys} h) k l e = let p = sure_accumulation (codes "accum_sig") u v xs ys r s g h k l e in (p.0, ap accumulation p.1)
sure_item Signature u v _ _ r s (kinds_item {xs = xs} g) (constants_item {xs = ys} {A = B} h) k l e = key_or_word (DeclaredNames ▹ TypeExpression) (codes "kind") (DeclaredNames ◂ Sign type_word) v u (ys, B) xs s r h g (sym e)
sure_item Signature u v _ _ r s (constants_item {xs = xs} {A = A} g) (kinds_item {xs = ys} h) k l e = key_or_word (DeclaredNames ▹ TypeExpression) (codes "kind") (DeclaredNames ◂ Sign type_word) u v (xs, A) ys r s g h e
sure_item Signature u v _ _ r s (kinds_item {xs = xs} g) (signatures_item {xs = ys} h) k l e = two_words (codes "kind") (codes "accum_sig") (DeclaredNames ◂ Sign type_word) Names u v xs ys r s kind_no_accumulation g h e
sure_item Signature u v _ _ r s (signatures_item {xs = xs} g) (kinds_item {xs = ys} h) k l e = two_words (codes "kind") (codes "accum_sig") (DeclaredNames ◂ Sign type_word) Names v u ys xs s r kind_no_accumulation h g (sym e)
sure_item Signature u v _ _ r s (constants_item {xs = xs} {A = A} g) (signatures_item {xs = ys} h) k l e = key_or_word (DeclaredNames ▹ TypeExpression) (codes "accum_sig") Names u v (xs, A) ys r s g h e
sure_item Signature u v _ _ r s (signatures_item {xs = xs} g) (constants_item {xs = ys} {A = B} h) k l e = key_or_word (DeclaredNames ▹ TypeExpression) (codes "accum_sig") Names v u (ys, B) xs s r h g (sym e)
sure_item Module u v _ _ r s (modules_item {xs = xs} g) (modules_item {xs = ys} h) k l e = let p = sure_accumulation (codes "accumulate") u v xs ys r s g h k l e in (p.0, ap accumulation p.1)
sure_item Module u v _ _ r s (clause_item {c = c} n g) (clause_item {c = d} m h) k l e = let p = sure_clause u v c d r s g h k l e in (p.0, ap clause p.1)
sure_item Module u v _ _ r s (modules_item {xs = xs} g) (clause_item {c = d} m h) k l e = accumulation_or_clause u v xs d r s g h m e
sure_item Module u v _ _ r s (clause_item {c = c} n g) (modules_item {xs = ys} h) k l e = accumulation_or_clause v u ys c s r h g n (sym e)

sure_text : (f : FileKind) → Sure (ItemText f) Anything
sure_text f = sure_joined (λ i (u : Unit {0}). i) (ItemForm f) (Sign stop) BeforeStop Anything (λ r g. key_in_front (other stop) Anything r g) (sure_item f) (sure_key (other stop) Anything)

-- one value of a text
one_of : {A : Type 0} (G : List Spot → A → Type 0) → Sure G Anything → (ts : List Token) (a b : A) → Accepted G ts a → Accepted G ts b → a ≡ b
one_of G sure ts a b p q = (sure p.read q.read a b [] [] p.text q.text tt tt (ap (λ (w : List Token). w ++ []) (p.tokens ∙ sym q.tokens))).1

pub one_title : (f : FileKind) (ts : List Token) (x y : List ℕ) → Accepted (TitleText f) ts x → Accepted (TitleText f) ts y → x ≡ y
one_title f = one_of (TitleText f) (sure_title f)

pub one_item : (f : FileKind) (ts : List Token) (i j : Item) → Accepted (ItemText f) ts i → Accepted (ItemText f) ts j → i ≡ j
one_item f = one_of (ItemText f) (sure_text f)
