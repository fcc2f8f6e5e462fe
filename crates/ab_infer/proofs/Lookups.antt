-- Looking names up, one entry after another.
use Rattle.std.proofs.Common.{◌≡◌, ◌≢◌, ℕ, zero, suc, ◌<◌, ◌≤◌, List, [], ◌∷◌, ◌++◌, length, get_or, take, drop, Bool, true, false, Option, Some, None, refl, sym, ◌∙◌, ap, subst, arith}
use Rattle.std.specs.Prelude.{MatchOption, Contains, bytes_eq, option_map, ◌==◌, ◌&&◌, not, nat_le, slice_index}
use Rattle.std.specs.List.{list_all}
use Rattle.std.specs.Char.{is_ascii_digit}
use Rattle.std.specs.Cmp.Lexicographic.{bytes_decides}
use Rattle.ab_term.specs.Terms.{Nominal, nominal, variable}
use Rattle.ab_term.specs.Constants.{Constant, names, type_in}
use Rattle.ab_norm.specs.ab_types.specs.Entries.{Table}
use Rattle.ab_norm.specs.ab_types.specs.Ids.{type_of}
use Rattle.ab_norm.specs.ab_store.specs.Trees.{Contents, head_reading}
use Rattle.ab_meaning.specs.ResolvedNames.{Name, Resolved, bound, known, free}
use Rattle.ab_meaning.specs.Scopes.{index_of, Entry}
use Rattle.ab_meaning.specs.Scopes as scopes
use Rattle.ab_inference.specs.Sketches.{variable_at}
use Rattle.ab_infer.specs.declared.scope.Bound.{Bound}
use Rattle.ab_infer.specs.declared.scope.Place.{Place}
use Rattle.ab_infer.specs.declared.scope.Place.TheVariants.{Proof}
use Rattle.ab_infer.specs.declared.name_meanings.Named.{Named}
use Rattle.ab_infer.specs.declared.name_meanings.Named.TheVariants as named
use Rattle.ab_infer.specs.NameScopes.{names_in, nodes_in, place_of}
use Rattle.ab_infer.specs.NameAnswers.{Finds}

pub same_bytes : (y x : List ℕ) → y ≡ x → bytes_eq y x ≡ true
same_bytes y x e = (bytes_decides y x).1 e

pub other_bytes : (y x : List ℕ) → y ≢ x → bytes_eq y x ≡ false
other_bytes y x n = go (bytes_eq y x) refl
  where
    go : (b : Bool) → bytes_eq y x ≡ b → bytes_eq y x ≡ false
    go true e = absurd (n ((bytes_decides y x).0 e))
    go false e = e

pub next_taken : {X : Type 0} (xs : List X) (i : ℕ) (x : X) → i < length xs → x ≡ get_or xs i x → take (suc i) xs ≡ take i xs ++ x ∷ []
next_taken [] i x l e = absurd (omega arith)
next_taken (y ∷ xs) zero x l e = ap (λ z. z ∷ []) (sym e)
next_taken (y ∷ xs) (suc i) x l e = ap (λ zs. y ∷ zs) (next_taken xs i x (omega arith) e)

pub next_left : {X : Type 0} (xs : List X) (i : ℕ) (x : X) → i < length xs → x ≡ get_or xs i x → drop i xs ≡ x ∷ drop (suc i) xs
next_left [] i x l e = absurd (omega arith)
next_left (y ∷ xs) zero x l e = ap (λ z. z ∷ xs) (sym e)
next_left (y ∷ xs) (suc i) x l e = next_left xs i x (omega arith) e

pub none_left : {X : Type 0} (xs : List X) (i : ℕ) → length xs ≤ i → drop i xs ≡ []
none_left [] zero l = refl
none_left [] (suc i) l = refl
none_left (x ∷ xs) zero l = absurd (omega arith)
none_left (x ∷ xs) (suc i) l = none_left xs i (omega arith)

pub all_taken : {X : Type 0} (xs : List X) (i : ℕ) → length xs ≤ i → take i xs ≡ xs
all_taken [] zero l = refl
all_taken [] (suc i) l = refl
all_taken (x ∷ xs) zero l = absurd (omega arith)
all_taken (x ∷ xs) (suc i) l = ap (λ ys. x ∷ ys) (all_taken xs i (omega arith))

pub last_name : (bs : List Bound) (b : Bound) → names_in (bs ++ b ∷ []) ≡ b.name ∷ names_in bs
last_name [] b = refl
last_name (c ∷ bs) b = ap (λ xs. xs ++ c.name ∷ []) (last_name bs b)

pub last_node : (bs : List Bound) (b : Bound) → nodes_in (bs ++ b ∷ []) ≡ b.node ∷ nodes_in bs
last_node [] b = refl
last_node (c ∷ bs) b = ap (λ xs. xs ++ c.node ∷ []) (last_node bs b)

-- what is found among bound names
abbrev pub IsIndex : ℕ → List Name → List ℕ → Name → ℕ × ℕ → Type 0
IsIndex n xs nodes x f = (index_of xs x ≡ Some f.0) × (variable_at nodes f.0 ≡ Some f.1) × (f.0 < n)

abbrev pub IsLook : ℕ → List Name → List ℕ → Name → Option (ℕ × ℕ) → Type 0
IsLook n xs nodes x found = MatchOption found (index_of xs x ≡ None) (IsIndex n xs nodes x)

abbrev pub LooksUp : ℕ → List Bound → Name → Option (ℕ × ℕ) → Type 0
LooksUp n bs x found = IsLook n (names_in bs) (nodes_in bs) x found

hit : (n : ℕ) (y : Name) (xs : List Name) (m : ℕ) (nodes : List ℕ) (x : Name) → y ≡ x → IsIndex (suc n) (y ∷ xs) (m ∷ nodes) x (0, m)
hit n y xs m nodes x e = (rw (same_bytes y x e), refl, omega arith)

missed : (n : ℕ) (y : Name) (xs : List Name) (m : ℕ) (nodes : List ℕ) (x : Name) (i k : ℕ) → y ≢ x → IsIndex n xs nodes x (i, k) → IsIndex (suc n) (y ∷ xs) (m ∷ nodes) x (suc i, k)
missed n y xs m nodes x i k d h = (let e = h.0 in rw (other_bytes y x d, e), h.1, omega (arith, h.2))

missed_none : (y : Name) (xs : List Name) (x : Name) → y ≢ x → index_of xs x ≡ None → index_of (y ∷ xs) x ≡ None
missed_none y xs x d h = rw (other_bytes y x d, h)

module _ (bs : List Bound) (i : ℕ) (b : Bound) (l : i < length bs) (is : b ≡ get_or bs i b) (x : Name) where
  taken_names : names_in (take (suc i) bs) ≡ b.name ∷ names_in (take i bs)
  taken_names = ap names_in (next_taken bs i b l is) ∙ last_name (take i bs) b

  taken_nodes : nodes_in (take (suc i) bs) ≡ b.node ∷ nodes_in (take i bs)
  taken_nodes = ap nodes_in (next_taken bs i b l is) ∙ last_node (take i bs) b

  pub looks_hit : (n : ℕ) → n ≡ suc i → b.name ≡ x → LooksUp n (take n bs) x (Some (0, b.node))
  looks_hit n n_is e = subst (λ n. LooksUp n (take n bs) x (Some (0, b.node))) (sym n_is)
      (rw (taken_names, taken_nodes) (hit i b.name (names_in (take i bs)) b.node (nodes_in (take i bs)) x e))

  pub looks_missed : (n m : ℕ) (j k : ℕ) → n ≡ suc i → m ≡ suc j → b.name ≢ x → LooksUp i (take i bs) x (Some (j, k)) → LooksUp n (take n bs) x (Some (m, k))
  looks_missed n m j k n_is m_is d h = subst (λ n. LooksUp n (take n bs) x (Some (m, k))) (sym n_is)
      (subst (λ m. LooksUp (suc i) (take (suc i) bs) x (Some (m, k))) (sym m_is)
      (rw (taken_names, taken_nodes) (missed i b.name (names_in (take i bs)) b.node (nodes_in (take i bs)) x j k d h)))

  pub looks_none : (n : ℕ) → n ≡ suc i → b.name ≢ x → LooksUp i (take i bs) x None → LooksUp n (take n bs) x None
  looks_none n n_is d h = subst (λ n. LooksUp n (take n bs) x None) (sym n_is) (rw taken_names (missed_none b.name (names_in (take i bs)) x d h))

-- a constant that isn't there has no type
pub no_type : (cs : List Constant) (x : Name) → (Contains (names cs) x → ⊥) → type_in cs x ≡ None
no_type [] x n = refl
no_type (c ∷ cs) x n =
    let rest = no_type cs x (λ h. n (suc h.0, omega (arith, h.1), h.2)) in
    let d = other_bytes x c.name (λ e. n (zero, omega arith, sym e)) in
    rw (d, rest)

-- entries of a sequent's variables
pub entry_hit : (e : Entry) (es : List Entry) (x : Name) → e.name ≡ x → scopes.variable_named (e ∷ es) x ≡ Some (known (variable (record { name = e.number; type = e.type })) e.type)
entry_hit e es x h = rw (same_bytes e.name x h)

pub entry_missed : (e : Entry) (es : List Entry) (x : Name) → e.name ≢ x → scopes.variable_named (e ∷ es) x ≡ scopes.variable_named es x
entry_missed e es x h = rw (other_bytes e.name x h)

pub same_numbers : (n m : ℕ) → n ≡ m → (n == m) ≡ true
same_numbers n m e = grind arith

pub other_numbers : (n m : ℕ) → n ≢ m → (n == m) ≡ false
other_numbers n m e = grind arith

pub nominal_hit : (a : Nominal) (ns : List Nominal) (n : ℕ) → a.number ≡ n → scopes.settled_nominal (a ∷ ns) n ≡ Some (known (nominal a) a.type)
nominal_hit a ns n h = rw (same_numbers a.number n h)

pub nominal_missed : (a : Nominal) (ns : List Nominal) (n : ℕ) → a.number ≢ n → scopes.settled_nominal (a ∷ ns) n ≡ scopes.settled_nominal ns n
nominal_missed a ns n h = rw (other_numbers a.number n h)

-- numbers without a leading zero
pub number_empty : (w : List ℕ) → length w ≡ 0 → scopes.is_number w ≡ false
number_empty [] l = refl
number_empty (d ∷ ds) l = absurd (omega arith)

pub number_zero : (w : List ℕ) → slice_index w 0 ≡ 48 → scopes.is_number w ≡ false
number_zero [] e = refl
number_zero (d ∷ ds) e = rw (same_numbers d 48 e)

pub number_long : (w : List ℕ) → 9 < length w → scopes.is_number w ≡ false
number_long [] l = refl
number_long (d ∷ ds) l = go (d == 48) (nat_le (length ds) 8) (grind arith)
  where
    go : (a b : Bool) → b ≡ false → (not a && (b && list_all is_ascii_digit (d ∷ ds))) ≡ false
    go true b e = refl
    go false b e = rw e

pub number_digits : (w : List ℕ) → 0 < length w → slice_index w 0 ≢ 48 → length w ≤ 9 → scopes.is_number w ≡ list_all is_ascii_digit w
number_digits [] l d s = absurd (omega arith)
number_digits (d ∷ ds) l n s =
    let long : nat_le (length ds) 8 ≡ true = grind arith in
    rw (other_numbers d 48 n, long)

-- one after another
module _ (T : Table) (S : Contents) (N : List ℕ) (x : Name) (p : ℕ) where
  abbrev pub Here : Option Resolved → Option Named → Type 0
  Here = Finds T S N x p

  pub none_here : (q : Option Resolved) (r : Option Named) → r ≡ None → Here q r → q ≡ None
  none_here q r e h = subst (Here q) e h

  or_some : (q b : Option Resolved) (v : Resolved) → q ≡ Some v → scopes.or_else q b ≡ Some v
  or_some q b v e = ap (λ q. scopes.or_else q b) e

  or_found : (q b : Option Resolved) (f : Named) → Here q (Some f) → Here (scopes.or_else q b) (Some f)
  or_found q b (named.Bound i n) h = (or_some q b (bound i) h.0, h.1)
  or_found q b (named.Known k id) h = (or_some q b (known (head_reading T S k) (type_of T id)) h.0, h.1)
  or_found q b named.Free h = or_some q b (free x p) h

  or_none : (q b : Option Resolved) (r : Option Named) → q ≡ None → Here b r → Here (scopes.or_else q b) r
  or_none q b r e h = subst (λ q. Here (scopes.or_else q b) r) (sym e) h

  pub settled_found : (place : Place) (ns : List Nominal) (n : ℕ) (r : Option Named) (f : Named) → place ≡ Proof → scopes.nominal_number x ≡ Some n → r ≡ Some f
      → Here (scopes.settled_nominal ns n) r → Here (scopes.nominal_named (place_of place) ns x p) (Some f)
  settled_found place ns n r f e m k h =
      subst (λ place. Here (scopes.nominal_named (place_of place) ns x p) (Some f)) (sym e)
      (subst (λ n. Here (scopes.nominal_at ns x p n) (Some f)) (sym m)
      (or_found (scopes.settled_nominal ns n) (Some (free x p)) f (subst (Here (scopes.settled_nominal ns n)) k h)))

  pub settled_none : (place : Place) (ns : List Nominal) (n : ℕ) (r : Option Named) → place ≡ Proof → scopes.nominal_number x ≡ Some n → r ≡ None
      → Here (scopes.settled_nominal ns n) r → scopes.nominal_named (place_of place) ns x p ≡ Some (free x p)
  settled_none place ns n r e m k h =
      subst (λ place. scopes.nominal_named (place_of place) ns x p ≡ Some (free x p)) (sym e)
      (subst (λ n. scopes.nominal_at ns x p n ≡ Some (free x p)) (sym m)
      (ap (λ q. scopes.or_else q (Some (free x p))) (subst (Here (scopes.settled_nominal ns n)) k h)))

  module _ (s : scopes.Scope) (bs : List Name) where
    pub by_bound : (r : Option Named) (f : Named) → r ≡ Some f → Here (option_map bound (index_of bs x)) r → Here (scopes.head_named s bs x p) (Some f)
    by_bound r f e h = or_found (option_map bound (index_of bs x)) _ f (subst (Here (option_map bound (index_of bs x))) e h)

    module _ (no_bound : option_map bound (index_of bs x) ≡ None) where
      pub by_truth : (r : Option Named) (f : Named) → r ≡ Some f → Here (scopes.truth_named x) r → Here (scopes.head_named s bs x p) (Some f)
      by_truth r f e h = or_none (option_map bound (index_of bs x)) _ (Some f) no_bound (or_found (scopes.truth_named x) _ f (subst (Here (scopes.truth_named x)) e h))

      module _ (no_truth : scopes.truth_named x ≡ None) where
        pub by_clause : (r : Option Named) (f : Named) → r ≡ Some f → Here (scopes.clause_variable s.place x p) r → Here (scopes.head_named s bs x p) (Some f)
        by_clause r f e h = or_none (option_map bound (index_of bs x)) _ (Some f) no_bound (or_none (scopes.truth_named x) _ (Some f) no_truth
            (or_found (scopes.clause_variable s.place x p) _ f (subst (Here (scopes.clause_variable s.place x p)) e h)))

        module _ (no_clause : scopes.clause_variable s.place x p ≡ None) where
          pub by_variable : (r : Option Named) (f : Named) → r ≡ Some f → Here (scopes.variable_named s.variables x) r → Here (scopes.head_named s bs x p) (Some f)
          by_variable r f e h = or_none (option_map bound (index_of bs x)) _ (Some f) no_bound (or_none (scopes.truth_named x) _ (Some f) no_truth
              (or_none (scopes.clause_variable s.place x p) _ (Some f) no_clause (or_found (scopes.variable_named s.variables x) _ f (subst (Here (scopes.variable_named s.variables x)) e h))))

          module _ (no_variable : scopes.variable_named s.variables x ≡ None) where
            pub by_constant : (r : Option Named) (f : Named) → r ≡ Some f → Here (scopes.constant_at x (s.constants x)) r → Here (scopes.head_named s bs x p) (Some f)
            by_constant r f e h = or_none (option_map bound (index_of bs x)) _ (Some f) no_bound (or_none (scopes.truth_named x) _ (Some f) no_truth
                (or_none (scopes.clause_variable s.place x p) _ (Some f) no_clause (or_none (scopes.variable_named s.variables x) _ (Some f) no_variable
                (or_found (scopes.constant_at x (s.constants x)) _ f (subst (Here (scopes.constant_at x (s.constants x))) e h)))))

            module _ (no_constant : scopes.constant_at x (s.constants x) ≡ None) where
              pub by_nominal : (r : Option Named) → Here (scopes.nominal_named s.place s.nominals x p) r → Here (scopes.head_named s bs x p) r
              by_nominal r h = or_none (option_map bound (index_of bs x)) _ r no_bound (or_none (scopes.truth_named x) _ r no_truth
                  (or_none (scopes.clause_variable s.place x p) _ r no_clause (or_none (scopes.variable_named s.variables x) _ r no_variable
                  (or_none (scopes.constant_at x (s.constants x)) _ r no_constant h))))
