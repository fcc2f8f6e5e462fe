-- The texts of specification files, read part by part.
use Rattle.std.proofs.Common.{◌≡◌, ℕ, List, [], ◌∷◌, ◌++◌, Option, Some, None, refl, ap, sym, ◌∙◌, subst, codes, get_or, arith}
use Rattle.ab_grammar.specs.declared.file.FileKind.{FileKind}
use Rattle.ab_grammar.specs.declared.file.FileKind.TheVariants.{Signature, Module}
use Rattle.ab_grammar.specs.Token.{Token, word, comma, other, stop, from, type_word}
use Rattle.ab_grammar.specs.Tree.{Ty, Tree}
use Rattle.ab_grammar.specs.Nesting.{Spot, lone}
use Rattle.ab_grammar.specs.Language.{tokens_of, Key, the_key, Expression, TypeExpression}
use Rattle.ab_grammar.specs.Language as language
use Rattle.ab_grammar.specs.CommandTrees.{Clause}
use Rattle.ab_grammar.specs.CommandForms.{one, joined, valued, left_out, present, no_more, Separated, ◌▹◌, ◌▸◌, ◌◂◌}
use Rattle.ab_grammar.specs.CommandTable.{StandsAnywhere, stands_at, Name, DeclaredNames, Word, Sign, clause_of}
use Rattle.ab_grammar.specs.FileTrees.{Item, kinds, constants, clause, accumulation}
use Rattle.ab_grammar.specs.FileTable.{Names, title_word, TitleText, Goals, goal_of, GoalBody, ProgramClause, BeginsAccumulation, begins_accumulation, ItemForm, kinds_item, constants_item, signatures_item, modules_item, clause_item, ItemText}
use Rattle.ab_grammar.proofs.Following.{first, led_by, Follow, follow, Anything, Followed, by_other, Comes, Except, Showing, Without, BeforeStop}
use Rattle.ab_grammar.proofs.Reading.{ReadsOff, Cause, ungrammatical, too_nested, RefusesAt}
use Rattle.ab_grammar.proofs.Lists.{regroup, begins_like, first_led}
use Rattle.ab_grammar.proofs.Joining.{Example}
use Rattle.ab_grammar.proofs.Choosing.{key_example}
use Rattle.ab_grammar.proofs.Continuing.{Continues, chosen, with_value, is_present, is_absent}
use Rattle.ab_grammar.proofs.Choices.{other_stop, keyed_missing}
use Rattle.ab_grammar.proofs.Shown.{name_example, declared_example, placed_example}
use Rattle.ab_grammar.proofs.Rows.{TwoParts, two_parts, any, same, valued_back, left_out_example, key_in_front, keyed_in_front, names_then_type, names_then_type_word}
use Rattle.ab_grammar.proofs.Beginnings.{Begins, with_word_token, with_truth, with_quantifier, with_pi, with_paren, with_brace, expression_begins, expression_example, type_example, followed_by, followed_by_stop}

-- a part that ends itself, and another
pub led : {A : Type 0} (K : List Spot → Unit {0} → Type 0) (G : List Spot → A → Type 0) (F : List Token → Type 0) → Example G → TwoParts K Anything G (K ▸ G) F (λ u a. a)
led K G F x = two_parts (λ (u : Unit {0}) a. a) (λ a. a) K Anything G (K ▸ G) F (any G F) x (λ w d g. g) (same (K ▸ G))

-- Titles

named_example : Example (Name ◂ Sign stop)
named_example = let n = name_example in record { spots = n.spots ++ lone (other stop) ∷ []; value = n.value; text = joined n.text the_key }

pub title : (f : FileKind) → TwoParts (Word (title_word f)) Anything (Name ◂ Sign stop) (TitleText f) Anything (λ u x. x)
title f = led (Word (title_word f)) (Name ◂ Sign stop) Anything named_example

-- Parts of items

pub names_example : Example Names
names_example = let n = name_example in record { spots = n.spots ++ []; value = n.value ∷ []; text = joined n.text no_more }

declared_names_example : Example DeclaredNames
declared_names_example = let n = declared_example in record { spots = n.spots ++ []; value = n.value ∷ []; text = joined n.text no_more }

-- w, .., w type
pub names_and_key : TwoParts DeclaredNames (Except comma) (Sign type_word) (DeclaredNames ◂ Sign type_word) BeforeStop (λ xs u. xs)
names_and_key = two_parts (λ xs (u : Unit {0}). xs) (λ xs. xs) DeclaredNames (Except comma) (Sign type_word) (DeclaredNames ◂ Sign type_word) BeforeStop names_then_type_word (key_example (other type_word)) (λ w d g. g) (same (DeclaredNames ◂ Sign type_word))

-- w, .., w ty
pub names_and_type : TwoParts DeclaredNames (Except comma) TypeExpression (DeclaredNames ▹ TypeExpression) BeforeStop (λ xs A. (xs, A))
names_and_type = two_parts (λ xs A. (xs, A)) (λ d. d) DeclaredNames (Except comma) TypeExpression (DeclaredNames ▹ TypeExpression) BeforeStop names_then_type type_example (λ w d g. g) (same (DeclaredNames ▹ TypeExpression))

kinds_example : Example (DeclaredNames ◂ Sign type_word)
kinds_example = let n = declared_names_example in record { spots = n.spots ++ lone (other type_word) ∷ []; value = n.value; text = joined n.text the_key }

constants_example : Example (DeclaredNames ▹ TypeExpression)
constants_example = let n = declared_names_example in let A = type_example in record { spots = n.spots ++ A.spots; value = (n.value, A.value); text = joined n.text A.text }

-- goals are followed by the full stop, and each by a comma or by it
pub goals_example : Example Goals
goals_example = let e = expression_example in record { spots = e.spots ++ []; value = goal_of (e.value ∷ []); text = valued (joined e.text no_more) }

module _ (ks : List Token) where
  pub with_goals : Comes (other from) ks → Continues (Sign from ▸ Goals) GoalBody BeforeStop (λ b. b) ks ks
  with_goals s = is_present None (Sign from ▸ Goals) BeforeStop ks (other_stop from (λ e. absurd (cc)) ks s)

  pub no_goals : Except (other from) ks → ReadsOff GoalBody BeforeStop ks None ks
  no_goals n = is_absent None (Sign from ▸ Goals) BeforeStop ks (keyed_missing (other from) Goals BeforeStop ks n)

  pub goals_joined : Continues (Separated (Key comma) Expression) Goals BeforeStop goal_of ks ks
  goals_joined = with_value goal_of (Separated (Key comma) Expression) BeforeStop ks

body_in_front : (w : List Spot) (b : Option Tree) (r : List Token) → GoalBody w b → BeforeStop r → Followed (tokens_of w ++ r)
body_in_front _ _ r left_out f = followed_by_stop r f
body_in_front w b r (present g) f = followed_by _ (other from) (keyed_in_front (other from) Goals w b r g) (by_other from)

pub body_follows : (r : List Token) → Follow GoalBody BeforeStop r → Followed r
body_follows _ (follow {vs = vs} {r = r} {b = b} h f) = body_in_front vs b r h f

-- a clause: its head, then its goals
pub program_clause : TwoParts Expression Followed GoalBody ProgramClause BeforeStop (λ e b. clause_of (e, b))
program_clause = two_parts (λ e b. (e, b)) clause_of Expression Followed GoalBody ProgramClause BeforeStop body_follows (left_out_example None (Sign from ▸ Goals)) (λ w d g. valued g) (valued_back clause_of (Expression ▹ GoalBody))

-- With what an item begins

pub word_in_front : {A : Type 0} (x : List ℕ) (G : List Spot → A → Type 0) (w : List Spot) (a : A) (r : List Token) → (Word x ▸ G) w a → (p : ℕ) × (first (tokens_of w ++ r) ≡ Some (word x p))
word_in_front x G _ _ r (joined (one (stands_at p)) h) = (p, refl)

pub word_shows : (x : List ℕ) (k : Token) (u : Unit {0}) → StandsAnywhere (word x) k u → (p : ℕ) × (k ≡ word x p)
word_shows x _ _ (stands_at p) = (p, refl)

no_word_key : {A B : Type 0} (x : List ℕ) (G : List Spot → A → Type 0) (ks : List Token) (w : List Spot) (a : A) (r : List Token) → (Word x ▸ G) w a → first (tokens_of w ++ r) ≡ first ks → Comes (other type_word) ks → B
no_word_key x G ks w a r g e s = let q = word_in_front x G w a r g in let bad : Some (word x q.0) ≡ Some (other type_word) = sym q.1 ∙ e ∙ s in absurd (cc)

module _ (x : List ℕ) (ks : List Token) where
  -- the word comes next
  abbrev pub WordComes : Type 0
  WordComes = Showing (StandsAnywhere (word x)) tt ks

  comes_so : WordComes → (p : ℕ) × (first ks ≡ Some (word x p))
  comes_so (k, e, s) = let q = word_shows x k tt s in (q.0, e ∙ ap Some q.1)

  no_other_word : {A B : Type 0} (y : List ℕ) (G : List Spot → A → Type 0) (w : List Spot) (a : A) (r : List Token) → (x ≡ y → ⊥) → (Word y ▸ G) w a → first (tokens_of w ++ r) ≡ first ks → WordComes → B
  no_other_word y G w a r n g e s =
      let q = word_in_front y G w a r g in
      let k = comes_so s in
      let both : Some (word x k.0) ≡ Some (word y q.0) = sym k.1 ∙ sym e ∙ q.1 in
      let same : x ≡ y = cc in
      absurd (n same)

  no_word : {A B : Type 0} (G : List Spot → A → Type 0) (w : List Spot) (a : A) (r : List Token) → (Word x ▸ G) w a → first (tokens_of w ++ r) ≡ first ks → Without (StandsAnywhere (word x)) ks → B
  no_word G w a r g e n = let q = word_in_front x G w a r g in absurd (n (word x q.0) tt (sym e ∙ q.1) (stands_at q.0))

other_letters : (a b : ℕ) → a ≡ 107 → b ≡ 97 → a ≡ b → ⊥
other_letters a b p q e = absurd (omega (arith, p, q, e))

pub kind_no_accumulation : codes "kind" ≡ codes "accum_sig" → ⊥
kind_no_accumulation e = other_letters (get_or (codes "kind") 0 0) (get_or (codes "accum_sig") 0 0) refl refl (ap (λ (w : List ℕ). get_or w 0 0) e)

-- ITEMS OF A SIGNATURE

module _ (ks : List Token) where
  constants_back : Comes (other type_word) ks → (w : List Spot) (i : Item) (r : List Token) → ItemForm Signature w i → BeforeStop r → first (tokens_of w ++ r) ≡ first ks → (d : List (List ℕ) × Ty) × (Sign type_word ▸ (DeclaredNames ▹ TypeExpression)) w d × (constants d.0 d.1 ≡ i)
  constants_back s w _ r (constants_item {xs = xs} {A = A} g) f e = ((xs, A), g, refl)
  constants_back s w _ r (kinds_item {xs = xs} g) f e = no_word_key (codes "kind") (DeclaredNames ◂ Sign type_word) ks w xs r g e s
  constants_back s w _ r (signatures_item {xs = xs} g) f e = no_word_key (codes "accum_sig") Names ks w xs r g e s

  pub with_constants : Comes (other type_word) ks → Continues (Sign type_word ▸ (DeclaredNames ▹ TypeExpression)) (ItemForm Signature) BeforeStop (λ d. constants d.0 d.1) ks ks
  with_constants s = chosen (Sign type_word ▸ (DeclaredNames ▹ TypeExpression)) (ItemForm Signature) BeforeStop (λ d. constants d.0 d.1) ks (λ w d g. constants_item g) (constants_back s)

  kinds_back : WordComes (codes "kind") ks → (w : List Spot) (i : Item) (r : List Token) → ItemForm Signature w i → BeforeStop r → first (tokens_of w ++ r) ≡ first ks → (d : List (List ℕ)) × (Word (codes "kind") ▸ (DeclaredNames ◂ Sign type_word)) w d × (kinds d ≡ i)
  kinds_back s w _ r (kinds_item {xs = xs} g) f e = (xs, g, refl)
  kinds_back s w _ r (constants_item {xs = xs} {A = A} g) f e =
      let k = comes_so (codes "kind") ks s in
      let t = keyed_in_front (other type_word) (DeclaredNames ▹ TypeExpression) w (xs, A) r g in
      let bad : Some (word (codes "kind") k.0) ≡ Some (other type_word) = sym k.1 ∙ sym e ∙ t in
      absurd (cc)
  kinds_back s w _ r (signatures_item {xs = xs} g) f e = no_other_word (codes "kind") ks (codes "accum_sig") Names w xs r kind_no_accumulation g e s

  pub with_kinds : WordComes (codes "kind") ks → Continues (Word (codes "kind") ▸ (DeclaredNames ◂ Sign type_word)) (ItemForm Signature) BeforeStop kinds ks ks
  with_kinds s = chosen (Word (codes "kind") ▸ (DeclaredNames ◂ Sign type_word)) (ItemForm Signature) BeforeStop kinds ks (λ w d g. kinds_item g) (kinds_back s)

  signatures_back : Except (other type_word) ks → Without (StandsAnywhere (word (codes "kind"))) ks → (w : List Spot) (i : Item) (r : List Token) → ItemForm Signature w i → BeforeStop r → first (tokens_of w ++ r) ≡ first ks
      → (d : List (List ℕ)) × (Word (codes "accum_sig") ▸ Names) w d × (accumulation d ≡ i)
  signatures_back n m w _ r (signatures_item {xs = xs} g) f e = (xs, g, refl)
  signatures_back n m w _ r (constants_item {xs = xs} {A = A} g) f e = absurd (n (sym e ∙ keyed_in_front (other type_word) (DeclaredNames ▹ TypeExpression) w (xs, A) r g))
  signatures_back n m w _ r (kinds_item {xs = xs} g) f e = no_word (codes "kind") ks (DeclaredNames ◂ Sign type_word) w xs r g e m

  pub with_signatures : Except (other type_word) ks → Without (StandsAnywhere (word (codes "kind"))) ks → Continues (Word (codes "accum_sig") ▸ Names) (ItemForm Signature) BeforeStop accumulation ks ks
  with_signatures n m = chosen (Word (codes "accum_sig") ▸ Names) (ItemForm Signature) BeforeStop accumulation ks (λ w d g. signatures_item g) (signatures_back n m)

-- what stands behind the words of an item, with them
pub behind_kind : TwoParts (Word (codes "kind")) Anything (DeclaredNames ◂ Sign type_word) (Word (codes "kind") ▸ (DeclaredNames ◂ Sign type_word)) BeforeStop (λ u xs. xs)
behind_kind = led (Word (codes "kind")) (DeclaredNames ◂ Sign type_word) BeforeStop kinds_example

pub behind_type : TwoParts (Sign type_word) Anything (DeclaredNames ▹ TypeExpression) (Sign type_word ▸ (DeclaredNames ▹ TypeExpression)) BeforeStop (λ u d. d)
behind_type = led (Sign type_word) (DeclaredNames ▹ TypeExpression) BeforeStop constants_example

pub behind_accumulation : (x : List ℕ) → TwoParts (Word x) Anything Names (Word x ▸ Names) BeforeStop (λ u xs. xs)
behind_accumulation x = led (Word x) Names BeforeStop names_example

-- ITEMS OF A MODULE

-- a clause begins with a token
clause_begins : (w : List Spot) (c : Clause) (r : List Token) → ProgramClause w c → Begins (first (tokens_of w ++ r))
clause_begins _ _ r (valued (joined {us = us} {vs = vs} {a = e} g h)) = subst (λ (v : List Token). Begins (first v)) (sym (regroup us vs r)) (expression_begins us e (tokens_of vs ++ r) g)

begins_at_end : (k : Option Token) → Begins k → k ≡ None → ⊥
begins_at_end _ (with_word_token x p) e = absurd (cc)
begins_at_end _ (with_truth x p) e = absurd (cc)
begins_at_end _ (with_quantifier q p) e = absurd (cc)
begins_at_end _ (with_pi p) e = absurd (cc)
begins_at_end _ with_paren e = absurd (cc)
begins_at_end _ (with_brace p) e = absurd (cc)

accumulation_in_front : (w : List Spot) → BeginsAccumulation w → (r : List Token) → (p : ℕ) × (first (tokens_of w ++ r) ≡ Some (word (codes "accumulate") p))
accumulation_in_front _ (begins_accumulation p) r = (p, refl)

pub accumulates : (w : List Spot) (p : ℕ) → first (tokens_of w ++ []) ≡ Some (word (codes "accumulate") p) → BeginsAccumulation w
accumulates [] p e = absurd (cc)
accumulates (s ∷ w) p e = let same : s.token ≡ word (codes "accumulate") p = cc in subst (λ (k : Token). BeginsAccumulation (record { token = k; depth = s.depth } ∷ w)) (sym same) (begins_accumulation p)

-- the first token of a text is that of the text in front of other tokens
first_of_text : (w : List Spot) (r : List Token) → (first (tokens_of w ++ []) ≡ None → ⊥) → first (tokens_of w ++ []) ≡ first (tokens_of w ++ r)
first_of_text [] r n = absurd (n refl)
first_of_text (s ∷ w) r n = refl

-- and so does its text in front of other tokens
pub clause_in_front : (w : List Spot) (c : Clause) (r : List Token) → ProgramClause w c → first (tokens_of w ++ []) ≡ first (tokens_of w ++ r)
clause_in_front w c r g = first_of_text w r (begins_at_end (first (tokens_of w ++ [])) (clause_begins w c [] g))

accumulation_example : Example (ItemForm Module)
accumulation_example = let n = names_example in let w = placed_example (word (codes "accumulate")) in record { spots = w.spots ++ n.spots; value = accumulation n.value; text = modules_item (joined w.text n.text) }

module _ (ks : List Token) where
  modules_back : WordComes (codes "accumulate") ks → (w : List Spot) (i : Item) (r : List Token) → ItemForm Module w i → BeforeStop r → first (tokens_of w ++ r) ≡ first ks → (d : List (List ℕ)) × (Word (codes "accumulate") ▸ Names) w d × (accumulation d ≡ i)
  modules_back s w _ r (modules_item {xs = xs} g) f e = (xs, g, refl)
  modules_back s w _ r (clause_item {c = c} n g) f e =
      let k = comes_so (codes "accumulate") ks s in
      absurd (n (accumulates w k.0 (clause_in_front w c r g ∙ e ∙ k.1)))

  pub with_modules : WordComes (codes "accumulate") ks → Continues (Word (codes "accumulate") ▸ Names) (ItemForm Module) BeforeStop accumulation ks ks
  with_modules s = chosen (Word (codes "accumulate") ▸ Names) (ItemForm Module) BeforeStop accumulation ks (λ w d g. modules_item g) (modules_back s)

  module _ (n : Without (StandsAnywhere (word (codes "accumulate"))) ks) where
    clause_to : (w : List Spot) (c : Clause) (r : List Token) → ProgramClause w c → first (tokens_of w ++ r) ≡ first ks → ItemForm Module w (clause c)
    clause_to w c r g e = clause_item (λ b. let q = accumulation_in_front w b r in n (word (codes "accumulate") q.0) tt (sym e ∙ q.1) (stands_at q.0)) g

    clause_back : (w : List Spot) (i : Item) (r : List Token) → ItemForm Module w i → BeforeStop r → first (tokens_of w ++ r) ≡ first ks → (c : Clause) × ProgramClause w c × (clause c ≡ i)
    clause_back w _ r (modules_item {xs = xs} g) f e = no_word (codes "accumulate") ks Names w xs r g e n
    clause_back w _ r (clause_item {c = c} m g) f e = (c, g, refl)

    agrees : (rest r zs : List Token) (w us : List Spot) → ks ≡ tokens_of us ++ rest → tokens_of w ++ r ≡ tokens_of us ++ led_by (first rest) zs → first (tokens_of w ++ r) ≡ first ks
    agrees rest r zs w us t e = let like = begins_like ks rest zs us t in ap first (e ∙ like.1) ∙ first_led (first ks) like.0

    clause_begun : (us : List Spot) (rest : List Token) → ks ≡ tokens_of us ++ rest → language.Begins ProgramClause us → language.Begins (ItemForm Module) us
    clause_begun [] rest e g = record { rest = accumulation_example.spots; value = accumulation_example.value; text = accumulation_example.text }
    clause_begun (u ∷ us) rest e g = record { rest = g.rest; value = clause g.value; text = clause_to (u ∷ us ++ g.rest) g.value [] g.text (ap first (sym e)) }

    clause_reads : (c : Clause) (rest : List Token) → ReadsOff ProgramClause BeforeStop ks c rest → ReadsOff (ItemForm Module) BeforeStop ks (clause c) rest
    clause_reads c rest p = record {
      read = p.read;
      shallow = p.shallow;
      tokens = p.tokens;
      reads = record {
        is = clause_to p.read c rest p.reads.is (ap first (sym p.tokens));
        only = λ w b r zs g k e.
            let h = clause_back w b r g k (agrees rest r zs w p.read p.tokens e) in
            let one = p.reads.only w h.0 r zs h.1 k e in
            (one.0, sym h.2 ∙ ap clause one.1);
      };
    }

    clause_refuses : (c : Cause) (rest : List Token) → RefusesAt ProgramClause BeforeStop c ks rest → RefusesAt (ItemForm Module) BeforeStop c ks rest
    clause_refuses ungrammatical rest p = record {
      read = p.read;
      shallow = p.shallow;
      tokens = p.tokens;
      fails = record {
        begins = clause_begun p.read rest p.tokens p.fails.begins;
        none = λ w b r zs g k e. let h = clause_back w b r g k (agrees rest r zs w p.read p.tokens e) in p.fails.none w h.0 r zs h.1 k e;
      };
    }
    clause_refuses too_nested rest p = record {
      read = p.read;
      last = p.last;
      behind = p.behind;
      shallow = p.shallow;
      deep = p.deep;
      tokens = p.tokens;
      next = p.next;
      begins = clause_begun (p.read ++ p.last ∷ []) p.behind (p.tokens ∙ ap (λ (v : List Token). tokens_of p.read ++ v) p.next ∙ sym (regroup p.read (p.last ∷ []) p.behind)) p.begins;
      only = λ w b r zs g k e.
          let here : Some p.last.token ≡ first rest = sym (ap first p.next) in
          let h = clause_back w b r g k (agrees rest r zs w p.read p.tokens (e ∙ ap (λ (t : Option Token). tokens_of p.read ++ led_by t zs) here)) in
          p.only w h.0 r zs h.1 k e;
    }

    pub with_clause : Continues ProgramClause (ItemForm Module) BeforeStop clause ks ks
    with_clause = record { reads = clause_reads; refuses = clause_refuses }

-- an item, and its full stop
stop_comes : (r : List Token) → Follow (Sign stop) Followed r → BeforeStop r
stop_comes r f = key_in_front (other stop) Followed r f

pub whole_item : (f : FileKind) → TwoParts (ItemForm f) BeforeStop (Sign stop) (ItemText f) Followed (λ i u. i)
whole_item f = two_parts (λ i (u : Unit {0}). i) (λ i. i) (ItemForm f) BeforeStop (Sign stop) (ItemText f) Followed stop_comes (key_example (other stop)) (λ w d g. g) (same (ItemText f))
