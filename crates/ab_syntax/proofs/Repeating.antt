-- Lists of items with a key between, read item by item.
use Rattle.std.proofs.Common.{◌≡◌, ◌≢◌, ◌<◌, ◌≤◌, Bool, true, false, Some, List, [], ◌∷◌, ◌++◌, length, map, refl, ap, sym, ◌∙◌, subst, length-append, arith}
use Rattle.std.proofs.lemmas.List.{map-append}
use Rattle.ab_grammar.specs.Token.{Token}
use Rattle.ab_grammar.proofs.Following.{first, Follow, Anything}
use Rattle.ab_grammar.specs.Nesting.{Spot}
use Rattle.ab_grammar.specs.Language.{tokens_of, Key}
use Rattle.ab_grammar.proofs.Reading.{ReadsOff, Cause, RefusesAt, ungrammatical, too_nested}
use Rattle.ab_grammar.specs.CommandForms.{Many, Separated, ◌▸◌}
use Rattle.ab_grammar.proofs.Joining.{Example}
use Rattle.ab_grammar.proofs.Choosing.{key_reads}
use Rattle.ab_grammar.proofs.Looping.{SoFar, goes_on, item_fails, ends, first_read, first_fails, key_apart, key_missing, keyed_reads, keyed_refuses}
use Rattle.ab_grammar.proofs.Rows.{TwoParts, two_parts}
use Rattle.ab_expressions.specs.declared.stop.Stop.{Stop}
use Rattle.ab_expressions.specs.declared.stop.Stop.TheVariants.{Syntax, TooNested, Memory}
use Rattle.ab_expressions.specs.Kinds.{key_of}
use Rattle.ab_syntax.specs.Lists.{ListForm}
use Rattle.ab_expressions.specs.Reader.{IsTaken, Refused}

-- a key and a part
pub keyed : {A : Type 0} (k : Token) (G : List Spot → A → Type 0) (F : List Token → Type 0) → Example G → TwoParts (Key k) (λ r. Unit {0}) G (Key k ▸ G) F (λ u b. b)
keyed k G F x = two_parts (λ u b. b) (λ b. b) (Key k) (λ r. Unit {0}) G (Key k ▸ G) F (λ r f. tt) x (λ w d g. g) (λ w d g. (d, g, refl))

behind_longer : {A : Type 0} (G : List Spot → A → Type 0) (E : List Token → Type 0) (ks ms : List Token) (a : A) → ReadsOff G E ks a ms → length ms ≤ length ks
behind_longer G E ks ms a p = omega (arith, ap length p.tokens, length-append (tokens_of p.read) ms)

-- what is left behind a key and a part is shorter
pub shorter : {A : Type 0} (k : Token) (G : List Spot → A → Type 0) (E : List Token → Type 0) (ks ms ns : List Token) (a : A) → ks ≡ k ∷ ms → ReadsOff G E ms a ns → length ns < length ks
shorter k G E ks ms ns a e p = omega (arith, ap length e, behind_longer G E ms ns a p)

-- a key that was taken was read, and one that was not isn't there
pub taken : (k : Token) (ks ms : List Token) (b : Bool) → b ≡ true → IsTaken k ks ms b → ks ≡ k ∷ ms
taken k ks ms true e h = h
taken k ks ms false e h = let bad : false ≡ true = e in absurd (cc)

pub left_there : (k : Token) (ks ms : List Token) (b : Bool) → b ≡ false → IsTaken k ks ms b → (first ks ≢ Some k) × (ms ≡ ks)
left_there k ks ms false e h = h
left_there k ks ms true e h = let bad : true ≡ false = e in absurd (cc)

pub behind_sign : (k j : Token) (ks ms : List Token) → k ≡ j → ks ≡ k ∷ ms → ks ≡ j ∷ ms
behind_sign k j ks ms e f = f ∙ ap (λ (i : Token). i ∷ ms) e

pub key_taken : (k : Token) (ks ms : List Token) → ks ≡ k ∷ ms → ReadsOff (Key k) Anything ks tt ms
key_taken k ks ms e = subst (λ (w : List Token). ReadsOff (Key k) Anything w tt ms) (sym e) (key_reads k ms)

-- the items so far were read, from ks up to here
abbrev pub ItemsTo : {X : Type 0} (list : ListForm X) → List Token → List list.Meant → List Token → Type 0
ItemsTo list ks v ms = SoFar (Key (key_of list.sign) ▸ list.form) (Separated (Key (key_of list.sign)) list.form) list.list_ends ks v ms

module _ {X : Type 0} (list : ListForm X) (ks : List Token) where
  pub first_item : (ms : List Token) (a : list.Meant) → ReadsOff list.form list.ends ks a ms → ItemsTo list ks (a ∷ []) ms
  first_item ms a p = first_read list.form (Key (key_of list.sign) ▸ list.form) list.ends list.list_ends list.within ks ms a p

  pub no_first_item : (s : Stop) (rest : List Token) → Refused list.form list.ends s ks rest → Refused (Separated (Key (key_of list.sign)) list.form) list.list_ends s ks rest
  no_first_item Syntax rest r = first_fails list.form (Key (key_of list.sign) ▸ list.form) list.ends list.list_ends list.within ks ungrammatical rest r
  no_first_item TooNested rest r = first_fails list.form (Key (key_of list.sign) ▸ list.form) list.ends list.list_ends list.within ks too_nested rest r
  no_first_item (Memory e) rest r = tt

  pub next_item : (ms ls ns : List Token) (v : List list.Meant) (a : list.Meant) → ms ≡ (key_of list.sign) ∷ ls → ReadsOff list.form list.ends ls a ns → ItemsTo list ks v ms → ItemsTo list ks (v ++ a ∷ []) ns
  next_item ms ls ns v a e p s = goes_on (Key (key_of list.sign) ▸ list.form) (Separated (Key (key_of list.sign)) list.form) list.list_ends ks ms ns v a (key_apart (key_of list.sign) list.form list.ends list.list_ends list.apart list.within ms (ap first e)) (subst (λ (w : List Token). ReadsOff (Key (key_of list.sign) ▸ list.form) (Follow (Many (Key (key_of list.sign) ▸ list.form)) list.list_ends) w a ns) (sym e) (keyed_reads (key_of list.sign) list.form list.ends list.list_ends list.apart list.within ls ns a p)) s

  behind_key : (ms ls rest : List Token) (c : Cause) → ms ≡ (key_of list.sign) ∷ ls → RefusesAt list.form list.ends c ls rest → RefusesAt (Key (key_of list.sign) ▸ list.form) (Follow (Many (Key (key_of list.sign) ▸ list.form)) list.list_ends) c ms rest
  behind_key ms ls rest c e r = subst (λ (w : List Token). RefusesAt (Key (key_of list.sign) ▸ list.form) (Follow (Many (Key (key_of list.sign) ▸ list.form)) list.list_ends) c w rest) (sym e) (keyed_refuses (key_of list.sign) list.form list.ends list.list_ends list.apart list.within c ls rest r)

  pub no_next_item : (ms ls rest : List Token) (v : List list.Meant) (s : Stop) → ms ≡ (key_of list.sign) ∷ ls → Refused list.form list.ends s ls rest → ItemsTo list ks v ms → Refused (Separated (Key (key_of list.sign)) list.form) list.list_ends s ks rest
  no_next_item ms ls rest v Syntax e r q = item_fails (Key (key_of list.sign) ▸ list.form) (Separated (Key (key_of list.sign)) list.form) list.list_ends ks ungrammatical ms rest v (key_apart (key_of list.sign) list.form list.ends list.list_ends list.apart list.within ms (ap first e)) (behind_key ms ls rest ungrammatical e r) q
  no_next_item ms ls rest v TooNested e r q = item_fails (Key (key_of list.sign) ▸ list.form) (Separated (Key (key_of list.sign)) list.form) list.list_ends ks too_nested ms rest v (key_apart (key_of list.sign) list.form list.ends list.list_ends list.apart list.within ms (ap first e)) (behind_key ms ls rest too_nested e r) q
  no_next_item ms ls rest v (Memory e) q r h = tt

  pub last_item : (ms : List Token) (v : List list.Meant) → (first ms ≡ Some (key_of list.sign) → ⊥) → ItemsTo list ks v ms → ReadsOff (Separated (Key (key_of list.sign)) list.form) list.list_ends ks v ms
  last_item ms v n s = ends (Key (key_of list.sign) ▸ list.form) (Separated (Key (key_of list.sign)) list.form) list.list_ends ks ms v (key_missing (key_of list.sign) list.form list.ends list.list_ends list.apart list.within (Follow (Many (Key (key_of list.sign) ▸ list.form)) list.list_ends) ms n) s

  -- the same where the items are what the program's items stand for
  pub next_mapped : (xs ys : List X) (x : X) (ms ls ns : List Token) → ys ≡ xs ++ x ∷ [] → ms ≡ (key_of list.sign) ∷ ls → ReadsOff list.form list.ends ls (list.meant x) ns → ItemsTo list ks (map list.meant xs) ms → ItemsTo list ks (map list.meant ys) ns
  next_mapped xs ys x ms ls ns e h p s = subst (λ v. ItemsTo list ks v ns) (sym (ap (map list.meant) e ∙ map-append list.meant xs (x ∷ []))) (next_item ms ls ns (map list.meant xs) (list.meant x) h p s)

-- an item comes next: the first, or one behind the sign
pub data ItemNext {X : Type 0} (list : ListForm X) (ks : List Token) : List X → List Token → Type 0 where
  comes_first : ItemNext list ks [] ks
  comes_later : {xs : List X} {ms ls : List Token} → ms ≡ (key_of list.sign) ∷ ls → ItemsTo list ks (map list.meant xs) ms → ItemNext list ks xs ls

pub one_more : {X : Type 0} (list : ListForm X) (ks ls ns : List Token) (xs : List X) (x : X) → ItemNext list ks xs ls → ReadsOff list.form list.ends ls (list.meant x) ns → ItemsTo list ks (map list.meant (xs ++ x ∷ [])) ns
one_more list ks _ ns _ x comes_first p = first_item list ks ns (list.meant x) p
one_more list ks ls ns xs x (comes_later {ms = ms} h s) p = next_mapped list ks xs (xs ++ x ∷ []) x ms ls ns refl h p s

pub no_more_items : {X : Type 0} (list : ListForm X) (ks ls rest : List Token) (xs : List X) (s : Stop) → ItemNext list ks xs ls → Refused list.form list.ends s ls rest → Refused (Separated (Key (key_of list.sign)) list.form) list.list_ends s ks rest
no_more_items list ks _ rest _ s comes_first r = no_first_item list ks s rest r
no_more_items list ks ls rest xs s (comes_later {ms = ms} h q) r = no_next_item list ks ms ls rest (map list.meant xs) s h r q
