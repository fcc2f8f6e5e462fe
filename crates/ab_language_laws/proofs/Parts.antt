-- Tokens, keys, and rows of them: something is found of each.
use Rattle.std.proofs.Common.{◌≡◌, ℕ, zero, suc, ◌≤◌, List, [], ◌∷◌, ◌++◌, Some, length, refl, ap, sym, subst, ◌⊎◌, inl, inr, arith, length-append}
use Rattle.ab_grammar.specs.Token.{Token}
use Rattle.ab_grammar.specs.Nesting.{Spot}
use Rattle.ab_grammar.specs.Language.{tokens_of, Key}
use Rattle.ab_grammar.specs.CommandForms.{One, Many, OneOrMore, Separated, ◌▸◌}
use Rattle.ab_grammar.proofs.Following.{first, Follow, Anything, Except, Without}
use Rattle.ab_grammar.proofs.Reading.{ReadsOff, ungrammatical, too_nested}
use Rattle.ab_grammar.proofs.Joining.{Example}
use Rattle.ab_grammar.proofs.Shown.{ShowsOne}
use Rattle.ab_grammar.proofs.Choosing.{one_reads, one_stops, key_reads, key_stops, fewer_reads}
use Rattle.ab_grammar.proofs.Continuing.{Apart}
use Rattle.ab_grammar.proofs.Looping.{SoFar, nothing_yet, token_missing, goes_on, item_fails, ends, first_read, first_fails, key_apart, key_missing, keyed_reads, keyed_refuses}
use Rattle.ab_language_laws.proofs.Outcomes.{Outcome, is_read, is_stopped, is_deep, Total}
use Rattle.ab_language_laws.proofs.Shows.{IsTold, Shown, IsShown, none_at_end, none_next}

-- one token
module _ {A : Type 0} (Shows : Token → A → Type 0) (shown : IsShown Shows) (one : ShowsOne Shows) (x : Example (One Shows)) where
  by_token : (k : Token) (ks : List Token) → Shown Shows k → Outcome (One Shows) Anything (k ∷ ks)
  by_token k ks (inl s) = is_read s.0 ks (one_reads Shows k s.0 ks s.1 (λ b t. one k s.0 b s.1 t))
  by_token k ks (inr absent) = is_stopped (k ∷ ks) (one_stops Shows (k ∷ ks) x (none_next Shows k ks absent))

  pub token : Total (One Shows) Anything
  token [] = is_stopped [] (one_stops Shows [] x (none_at_end Shows))
  token (k ∷ ks) = by_token k ks (shown k)

-- another token comes next
another : (k j : Token) (ks : List Token) → (j ≡ k → ⊥) → Except k (j ∷ ks)
another k j ks n e = let same : j ≡ k = cc in n same

-- a key
module _ (k : Token) (told : IsTold k) where
  by_key : (j : Token) (ks : List Token) → (j ≡ k) ⊎ (j ≡ k → ⊥) → Outcome (Key k) Anything (j ∷ ks)
  by_key j ks (inl s) = is_read tt ks (subst (λ (i : Token). ReadsOff (Key k) Anything (i ∷ ks) tt ks) (sym s) (key_reads k ks))
  by_key j ks (inr absent) = is_stopped (j ∷ ks) (key_stops k (j ∷ ks) (another k j ks absent))

  pub key : Total (Key k) Anything
  key [] = is_stopped [] (key_stops k [] (λ e. absurd (cc)))
  key (j ∷ ks) = by_key j ks (told j)

-- what is left is no longer
no_longer : {A : Type 0} (G : List Spot → A → Type 0) (F : List Token → Type 0) (ks ms : List Token) (a : A) → ReadsOff G F ks a ms → length ms ≤ length ks
no_longer G F ks ms a r = let e = ap length r.tokens in omega (arith, e, length-append (tokens_of r.read) ms)

-- items with a key between
module _ {A : Type 0} (k : Token) (G : List Spot → A → Type 0) (E F : List Token → Type 0) (told : IsTold k) (out : (r : List Token) → F r → Except k r) (less : (r : List Token) → Follow (Many (Key k ▸ G)) F r → E r) (item : Total G E) (ks : List Token) where
  abbrev Items : List Spot → List A → Type 0
  Items = Separated (Key k) G

  abbrev ItemsTo : List A → List Token → Type 0
  ItemsTo v ms = SoFar (Key k ▸ G) Items F ks v ms

  no_more : (ms : List Token) (v : List A) → Except k ms → ItemsTo v ms → Outcome Items F ks
  no_more ms v absent s = is_read v ms (ends (Key k ▸ G) Items F ks ms v (key_missing k G E F out less (Follow (Many (Key k ▸ G)) F) ms absent) s)

  abbrev GoesOn : ℕ → Type 0
  GoesOn size = (ms : List Token) → length ms ≤ size → (v : List A) → ItemsTo v ms → Outcome Items F ks

  behind_key : (size : ℕ) → GoesOn size → (ms : List Token) → length ms ≤ size → (v : List A) → ItemsTo v (k ∷ ms) → Outcome G E ms → Outcome Items F ks
  behind_key size on ms h v s (is_read a ns r) =
      let l = no_longer G E ms ns a r in
      on ns (omega arith) (v ++ a ∷ []) (goes_on (Key k ▸ G) Items F ks (k ∷ ms) ns v a (key_apart k G E F out less (k ∷ ms) refl) (keyed_reads k G E F out less ms ns a r) s)
  behind_key size on ms h v s (is_stopped ns r) = is_stopped ns (item_fails (Key k ▸ G) Items F ks ungrammatical (k ∷ ms) ns v (key_apart k G E F out less (k ∷ ms) refl) (keyed_refuses k G E F out less ungrammatical ms ns r) s)
  behind_key size on ms h v s (is_deep ns r) = is_deep ns (item_fails (Key k ▸ G) Items F ks too_nested (k ∷ ms) ns v (key_apart k G E F out less (k ∷ ms) refl) (keyed_refuses k G E F out less too_nested ms ns r) s)

  at_token : (size : ℕ) → GoesOn size → (j : Token) (ms : List Token) → length ms ≤ size → (v : List A) → ItemsTo v (j ∷ ms) → (j ≡ k) ⊎ (j ≡ k → ⊥) → Outcome Items F ks
  at_token size on j ms h v s (inl same) = behind_key size on ms h v (subst (λ (i : Token). ItemsTo v (i ∷ ms)) same s) (item ms)
  at_token size on j ms h v s (inr absent) = no_more (j ∷ ms) v (another k j ms absent) s

  items_on : (size : ℕ) → GoesOn size
  items_on size [] h v s = no_more [] v (λ e. absurd (cc)) s
  items_on zero (j ∷ ms) h v s = absurd (omega arith)
  items_on (suc size) (j ∷ ms) h v s = at_token size (items_on size) j ms (omega arith) v s (told j)

  first_found : Outcome G E ks → Outcome Items F ks
  first_found (is_read a ms r) = items_on (length ms) ms (omega arith) (a ∷ []) (first_read G (Key k ▸ G) E F less ks ms a r)
  first_found (is_stopped ms r) = is_stopped ms (first_fails G (Key k ▸ G) E F less ks ungrammatical ms r)
  first_found (is_deep ms r) = is_deep ms (first_fails G (Key k ▸ G) E F less ks too_nested ms r)

  pub separated : Outcome Items F ks
  separated = first_found (item ks)

-- items that are one token, which can't follow the row
module _ {A : Type 0} (Shows : Token → A → Type 0) (shown : IsShown Shows) (one : ShowsOne Shows) (x : Example (One Shows)) (F : List Token → Type 0) (apart : (k : Token) (ms : List Token) (a : A) → first ms ≡ Some k → Shows k a → Apart F ms) (ks : List Token) where
  module _ (R : List Spot → List A → Type 0) where
    abbrev TokensTo : List A → List Token → Type 0
    TokensTo v ms = SoFar (One Shows) R F ks v ms

    no_token : (ms : List Token) (v : List A) → Without Shows ms → TokensTo v ms → Outcome R F ks
    no_token ms v absent s = is_read v ms (ends (One Shows) R F ks ms v (token_missing Shows (Follow (Many (One Shows)) F) ms absent) s)

    by_shown : (j : Token) (ms : List Token) (v : List A) → TokensTo v (j ∷ ms) → ((w : List A) → TokensTo w ms → Outcome R F ks) → Shown Shows j → Outcome R F ks
    by_shown j ms v s on (inl t) =
        on (v ++ t.0 ∷ []) (goes_on (One Shows) R F ks (j ∷ ms) ms v t.0 (apart j (j ∷ ms) t.0 refl t.1) (fewer_reads (One Shows) Anything (Follow (Many (One Shows)) F) (λ r f. tt) (j ∷ ms) ms t.0 (one_reads Shows j t.0 ms t.1 (λ b u. one j t.0 b t.1 u))) s)
    by_shown j ms v s on (inr absent) = no_token (j ∷ ms) v (none_next Shows j ms absent) s

    tokens_on : (ms : List Token) (v : List A) → TokensTo v ms → Outcome R F ks
    tokens_on [] v s = no_token [] v (none_at_end Shows) s
    tokens_on (j ∷ ms) v s = by_shown j ms v s (λ w t. tokens_on ms w t) (shown j)

  pub any_tokens : Outcome (Many (One Shows)) F ks
  any_tokens = tokens_on (Many (One Shows)) ks [] (nothing_yet (One Shows) F ks)

  first_token : Outcome (One Shows) Anything ks → Outcome (OneOrMore (One Shows)) F ks
  first_token (is_read a ms r) = tokens_on (OneOrMore (One Shows)) ms (a ∷ []) (first_read (One Shows) (One Shows) Anything F (λ r f. tt) ks ms a r)
  first_token (is_stopped ms r) = is_stopped ms (first_fails (One Shows) (One Shows) Anything F (λ r f. tt) ks ungrammatical ms r)
  first_token (is_deep ms r) = is_deep ms (first_fails (One Shows) (One Shows) Anything F (λ r f. tt) ks too_nested ms r)

  pub some_tokens : Outcome (OneOrMore (One Shows)) F ks
  some_tokens = first_token (token Shows shown one x ks)
