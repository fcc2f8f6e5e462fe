-- Whether a token is a key, and whether it shows a value, can be told; so whether the next token is one, and does.
use Rattle.std.proofs.Common.{◌≡◌, ℕ, zero, suc, ◌<◌, ◌≤◌, List, [], ◌∷◌, ◌++◌, Bool, true, false, Some, refl, ap, sym, ◌∙◌, subst, ◌⊎◌, inl, inr, arith, codes, decimal, bytes_eq}
use Rattle.std.proofs.lemmas.Slice.Eq.{bytes_eq-Decides}
use Rattle.ab_grammar.specs.declared.Infix.{Infix}
use Rattle.ab_grammar.specs.declared.Infix.TheVariants.{Equal}
use Rattle.ab_grammar.specs.Token.{Token, Other, word, sign, left_paren, right_paren, comma, colon, other, stop, semicolon, becomes, from, star, by_word, to_word, with_word, on_word, type_word, number, text}
use Rattle.ab_grammar.specs.CommandTrees.{named, hole}
use Rattle.ab_grammar.specs.CommandTable.{IsNominal, IsDeclarable, ShowsName, shows_name, ShowsDeclared, shows_declared, ShowsNominal, shows_nominal, ShowsArgument, shows_named, shows_hole, ShowsNumber, shows_number, ShowsDepth, shows_depth, ShowsLimit, shows_limit, ShowsText, shows_text, StandsAnywhere, stands_at}
use Rattle.ab_grammar.proofs.Following.{Comes, Except, Showing, Without}

-- Keys

abbrev pub IsTold : Token → Type 0
IsTold k = (j : Token) → (j ≡ k) ⊎ (j ≡ k → ⊥)

pub is_left_paren : IsTold left_paren
is_left_paren left_paren = inl refl
is_left_paren k = inr (λ e. absurd (cc))

pub is_right_paren : IsTold right_paren
is_right_paren right_paren = inl refl
is_right_paren k = inr (λ e. absurd (cc))

pub is_comma : IsTold comma
is_comma comma = inl refl
is_comma k = inr (λ e. absurd (cc))

pub is_colon : IsTold colon
is_colon colon = inl refl
is_colon k = inr (λ e. absurd (cc))

equal_sign : (o : Infix) → (o ≡ Equal) ⊎ (o ≡ Equal → ⊥)
equal_sign Equal = inl refl
equal_sign o = inr (λ e. absurd (cc))

same_sign : (o : Infix) → (o ≡ Equal) ⊎ (o ≡ Equal → ⊥) → (sign o ≡ sign Equal) ⊎ (sign o ≡ sign Equal → ⊥)
same_sign o (inl e) = inl (ap sign e)
same_sign o (inr n) = inr (λ e. let same : o ≡ Equal = cc in n same)

pub is_equal : IsTold (sign Equal)
is_equal (sign o) = same_sign o (equal_sign o)
is_equal k = inr (λ e. absurd (cc))

module _ (p : Other) (told : (o : Other) → (o ≡ p) ⊎ (o ≡ p → ⊥)) where
  same_other : (o : Other) → (o ≡ p) ⊎ (o ≡ p → ⊥) → (other o ≡ other p) ⊎ (other o ≡ other p → ⊥)
  same_other o (inl e) = inl (ap other e)
  same_other o (inr n) = inr (λ e. let same : o ≡ p = cc in n same)

  is_other : IsTold (other p)
  is_other (other o) = same_other o (told o)
  is_other k = inr (λ e. absurd (cc))

told_stop : (o : Other) → (o ≡ stop) ⊎ (o ≡ stop → ⊥)
told_stop stop = inl refl
told_stop o = inr (λ e. absurd (cc))

pub is_stop : IsTold (other stop)
is_stop = is_other stop told_stop

told_semicolon : (o : Other) → (o ≡ semicolon) ⊎ (o ≡ semicolon → ⊥)
told_semicolon semicolon = inl refl
told_semicolon o = inr (λ e. absurd (cc))

pub is_semicolon : IsTold (other semicolon)
is_semicolon = is_other semicolon told_semicolon

told_becomes : (o : Other) → (o ≡ becomes) ⊎ (o ≡ becomes → ⊥)
told_becomes becomes = inl refl
told_becomes o = inr (λ e. absurd (cc))

pub is_becomes : IsTold (other becomes)
is_becomes = is_other becomes told_becomes

told_from : (o : Other) → (o ≡ from) ⊎ (o ≡ from → ⊥)
told_from from = inl refl
told_from o = inr (λ e. absurd (cc))

pub is_from : IsTold (other from)
is_from = is_other from told_from

told_star : (o : Other) → (o ≡ star) ⊎ (o ≡ star → ⊥)
told_star star = inl refl
told_star o = inr (λ e. absurd (cc))

pub is_star : IsTold (other star)
is_star = is_other star told_star

told_by : (o : Other) → (o ≡ by_word) ⊎ (o ≡ by_word → ⊥)
told_by by_word = inl refl
told_by o = inr (λ e. absurd (cc))

pub is_by : IsTold (other by_word)
is_by = is_other by_word told_by

told_to : (o : Other) → (o ≡ to_word) ⊎ (o ≡ to_word → ⊥)
told_to to_word = inl refl
told_to o = inr (λ e. absurd (cc))

pub is_to : IsTold (other to_word)
is_to = is_other to_word told_to

told_with : (o : Other) → (o ≡ with_word) ⊎ (o ≡ with_word → ⊥)
told_with with_word = inl refl
told_with o = inr (λ e. absurd (cc))

pub is_with : IsTold (other with_word)
is_with = is_other with_word told_with

told_on : (o : Other) → (o ≡ on_word) ⊎ (o ≡ on_word → ⊥)
told_on on_word = inl refl
told_on o = inr (λ e. absurd (cc))

pub is_on : IsTold (other on_word)
is_on = is_other on_word told_on

told_type : (o : Other) → (o ≡ type_word) ⊎ (o ≡ type_word → ⊥)
told_type type_word = inl refl
told_type o = inr (λ e. absurd (cc))

pub is_type : IsTold (other type_word)
is_type = is_other type_word told_type

-- Values

abbrev pub Shown : {A : Type 0} → (Token → A → Type 0) → Token → Type 0
Shown {A} Shows k = ((a : A) × Shows k a) ⊎ ((a : A) → Shows k a → ⊥)

abbrev pub IsShown : {A : Type 0} → (Token → A → Type 0) → Type 0
IsShown Shows = (k : Token) → Shown Shows k

-- two words are one, or they aren't
pub same_word : (x y : List ℕ) → (x ≡ y) ⊎ (x ≡ y → ⊥)
same_word x y = by_test (bytes_eq x y) refl
  where
    by_test : (b : Bool) → bytes_eq x y ≡ b → (x ≡ y) ⊎ (x ≡ y → ⊥)
    by_test true e = inl ((bytes_eq-Decides x y).0 e)
    by_test false e = inr (λ p. let same : true ≡ false = sym ((bytes_eq-Decides x y).1 p) ∙ e in absurd (cc))

pub name_shown : IsShown ShowsName
name_shown (word x p) = inl (x, shows_name x p)
name_shown k = inr (λ a s. elim s [ ])

-- the word is n and one of the numbers up to a bound, or it isn't
nominal_next : (m : ℕ) (x : List ℕ) → ((n : ℕ) → IsNominal x n → n ≤ m → ⊥) → (x ≡ codes "n" ++ decimal (suc m)) ⊎ (x ≡ codes "n" ++ decimal (suc m) → ⊥) → (suc m ≤ 999999999) ⊎ (999999999 < suc m)
    → ((n : ℕ) × IsNominal x n) ⊎ ((n : ℕ) → IsNominal x n → n ≤ suc m → ⊥)
nominal_next m x absent (inl e) (inl h) = inl (suc m, (e, omega arith, h))
nominal_next m x absent (inl e) (inr h) = inr (λ n i l. absent n i (let k = i.2 in omega arith))
nominal_next m x absent (inr d) h = inr (λ n i l. other_number n i l (search (arith)))
  where
    other_number : (n : ℕ) → IsNominal x n → n ≤ suc m → (n ≤ m) ⊎ (m < n) → ⊥
    other_number n i l (inl k) = absent n i k
    other_number n i l (inr k) = let same : n ≡ suc m = omega arith in d (subst (λ (j : ℕ). x ≡ codes "n" ++ decimal j) same i.0)

nominal_to : (m : ℕ) (x : List ℕ) → ((n : ℕ) × IsNominal x n) ⊎ ((n : ℕ) → IsNominal x n → n ≤ m → ⊥)
nominal_to zero x = inr (λ n i l. let k = i.1 in absurd (omega arith))
nominal_to (suc m) x = from_fewer (nominal_to m x)
  where
    from_fewer : ((n : ℕ) × IsNominal x n) ⊎ ((n : ℕ) → IsNominal x n → n ≤ m → ⊥) → ((n : ℕ) × IsNominal x n) ⊎ ((n : ℕ) → IsNominal x n → n ≤ suc m → ⊥)
    from_fewer (inl h) = inl h
    from_fewer (inr absent) = nominal_next m x absent (same_word x (codes "n" ++ decimal (suc m))) (search (arith))

nominal : (x : List ℕ) → ((n : ℕ) × IsNominal x n) ⊎ ((n : ℕ) → IsNominal x n → ⊥)
nominal x = from_bound (nominal_to 999999999 x)
  where
    from_bound : ((n : ℕ) × IsNominal x n) ⊎ ((n : ℕ) → IsNominal x n → n ≤ 999999999 → ⊥) → ((n : ℕ) × IsNominal x n) ⊎ ((n : ℕ) → IsNominal x n → ⊥)
    from_bound (inl h) = inl h
    from_bound (inr absent) = inr (λ n i. absent n i i.2)

nominal_of : (x : List ℕ) (p n : ℕ) → ShowsNominal (word x p) n → IsNominal x n
nominal_of x p _ (shows_nominal y q n h) = h

nominal_word : (x : List ℕ) (p : ℕ) → ((n : ℕ) × IsNominal x n) ⊎ ((n : ℕ) → IsNominal x n → ⊥) → Shown ShowsNominal (word x p)
nominal_word x p (inl h) = inl (h.0, shows_nominal x p h.0 h.1)
nominal_word x p (inr absent) = inr (λ n s. absent n (nominal_of x p n s))

pub nominal_shown : IsShown ShowsNominal
nominal_shown (word x p) = nominal_word x p (nominal x)
nominal_shown k = inr (λ a s. elim s [ ])

declarable : (b : ℕ) (w : List ℕ) → (97 ≤ b) ⊎ (b < 97) → (b ≤ 122) ⊎ (122 < b) → ((n : ℕ) × IsNominal (b ∷ w) n) ⊎ ((n : ℕ) → IsNominal (b ∷ w) n → ⊥) → IsDeclarable (b ∷ w) ⊎ (IsDeclarable (b ∷ w) → ⊥)
declarable b w (inl h) (inl k) (inr absent) = inl (record { letter = b; others = w; spelled = refl; from_a = h; to_z = k; not_nominal = absent })
declarable b w (inr h) k n = inr (λ d. let same : b ≡ d.letter = (let e = d.spelled in cc) in let f = d.from_a in absurd (omega arith))
declarable b w h (inr k) n = inr (λ d. let same : b ≡ d.letter = (let e = d.spelled in cc) in let f = d.to_z in absurd (omega arith))
declarable b w h k (inl i) = inr (λ d. d.not_nominal i.0 i.1)

is_declarable : (x : List ℕ) → IsDeclarable x ⊎ (IsDeclarable x → ⊥)
is_declarable [] = inr (λ d. let e = d.spelled in absurd (cc))
is_declarable (b ∷ w) = declarable b w (search (arith)) (search (arith)) (nominal (b ∷ w))

declared_of : (x : List ℕ) (p : ℕ) (a : List ℕ) → ShowsDeclared (word x p) a → IsDeclarable x
declared_of x p _ (shows_declared y q d) = d

declared_word : (x : List ℕ) (p : ℕ) → IsDeclarable x ⊎ (IsDeclarable x → ⊥) → Shown ShowsDeclared (word x p)
declared_word x p (inl d) = inl (x, shows_declared x p d)
declared_word x p (inr absent) = inr (λ a s. absent (declared_of x p a s))

pub declared_shown : IsShown ShowsDeclared
declared_shown (word x p) = declared_word x p (is_declarable x)
declared_shown k = inr (λ a s. elim s [ ])

argument_word : (x : List ℕ) (p : ℕ) → (x ≡ codes "_") ⊎ (x ≡ codes "_" → ⊥) → Shown ShowsArgument (word x p)
argument_word x p (inl e) = inl (hole, subst (λ (y : List ℕ). ShowsArgument (word y p) hole) (sym e) (shows_hole p))
argument_word x p (inr n) = inl (named x, shows_named x p n)

pub argument_shown : IsShown ShowsArgument
argument_shown (word x p) = argument_word x p (same_word x (codes "_"))
argument_shown k = inr (λ a s. elim s [ ])

pub number_shown : IsShown ShowsNumber
number_shown (other (number n)) = inl (n, shows_number n)
number_shown k = inr (λ a s. elim s [ ])

depth_of : (n m : ℕ) → ShowsDepth (other (number n)) m → n ≤ 1000
depth_of n _ (shows_depth m h) = h

depth_number : (n : ℕ) → (n ≤ 1000) ⊎ (1000 < n) → Shown ShowsDepth (other (number n))
depth_number n (inl h) = inl (n, shows_depth n h)
depth_number n (inr h) = inr (λ m s. let k = depth_of n m s in absurd (omega arith))

pub depth_shown : IsShown ShowsDepth
depth_shown (other (number n)) = depth_number n (search (arith))
depth_shown k = inr (λ a s. elim s [ ])

limit_of : (n m : ℕ) → ShowsLimit (other (number n)) m → (1 ≤ n) × (n ≤ 1000)
limit_of n _ (shows_limit m l h) = (l, h)

limit_number : (n : ℕ) → (n ≤ 1000) ⊎ (1000 < n) → Shown ShowsLimit (other (number n))
limit_number zero h = inr (λ m s. let k = (limit_of 0 m s).0 in absurd (omega arith))
limit_number (suc n) (inl h) = inl (suc n, shows_limit (suc n) (omega arith) h)
limit_number (suc n) (inr h) = inr (λ m s. let k = (limit_of (suc n) m s).1 in absurd (omega arith))

pub limit_shown : IsShown ShowsLimit
limit_shown (other (number n)) = limit_number n (search (arith))
limit_shown k = inr (λ a s. elim s [ ])

pub text_shown : IsShown ShowsText
text_shown (other (text t)) = inl (t, shows_text t)
text_shown k = inr (λ a s. elim s [ ])

placed_is : (w : List ℕ) (k : Token) (u : Unit {0}) → StandsAnywhere (word w) k u → (x : List ℕ) (p : ℕ) → k ≡ word x p → x ≡ w
placed_is w _ u (stands_at q) x p e = cc

placed_word : (w x : List ℕ) (p : ℕ) → (x ≡ w) ⊎ (x ≡ w → ⊥) → Shown (StandsAnywhere (word w)) (word x p)
placed_word w x p (inl e) = inl (tt, subst (λ (y : List ℕ). StandsAnywhere (word w) (word y p) tt) (sym e) (stands_at p))
placed_word w x p (inr n) = inr (λ u s. n (placed_is w (word x p) u s x p refl))

pub word_shown : (w : List ℕ) → IsShown (StandsAnywhere (word w))
word_shown w (word x p) = placed_word w x p (same_word x w)
word_shown w k = inr (λ a s. elim s [ ])

-- The next token

pub next_told : (k : Token) → IsTold k → (ks : List Token) → (Comes k ks) ⊎ (Except k ks)
next_told k told [] = inr (λ e. absurd (cc))
next_told k told (j ∷ ks) = from_told (told j)
  where
    from_told : (j ≡ k) ⊎ (j ≡ k → ⊥) → (Comes k (j ∷ ks)) ⊎ (Except k (j ∷ ks))
    from_told (inl e) = inl (ap Some e)
    from_told (inr n) = inr (λ e. let same : j ≡ k = cc in n same)

module _ {A : Type 0} (Shows : Token → A → Type 0) where
  pub none_at_end : Without Shows []
  none_at_end k a e s = absurd (cc)

  pub none_next : (k : Token) (ks : List Token) → ((a : A) → Shows k a → ⊥) → Without Shows (k ∷ ks)
  none_next k ks n j a e s = let same : j ≡ k = cc in n a (subst (λ (i : Token). Shows i a) same s)

  pub next_shown : IsShown Shows → (ks : List Token) → ((a : A) × Showing Shows a ks) ⊎ Without Shows ks
  next_shown shown [] = inr none_at_end
  next_shown shown (k ∷ ks) = from_shown (shown k)
    where
      from_shown : Shown Shows k → ((a : A) × Showing Shows a (k ∷ ks)) ⊎ Without Shows (k ∷ ks)
      from_shown (inl s) = inl (s.0, (k, refl, s.1))
      from_shown (inr n) = inr (none_next k ks n)
