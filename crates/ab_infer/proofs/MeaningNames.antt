-- What the names of an expression stand for in a proof command: each is bound, or one that is known, or a nominal name whose
-- type nothing settles.
use Rattle.std.specs.Prelude.{if◌then◌else◌, bytes_eq}
use Rattle.std.specs.List.{All}
use Rattle.std.proofs.Common.{◌≡◌, ◌==◌, ℕ, List, [], ◌∷◌, codes, Bool, true, false, Option, Some, None, Ok, Err, option_map, refl, subst}
use Rattle.std.proofs.lemmas.List.Elements.{All-head, All-tail}
use Rattle.ab_term.specs.Types.{Ty, prop, arrows, o, olist}
use Rattle.ab_term.specs.Logical as logic
use Rattle.ab_term.specs.Logical.{Logical, logical_type}
use Rattle.ab_term.specs.Terms.{Head, Nominal, constant, logical, nominal, variable}
use Rattle.ab_term.specs.Typing.{Signature}
use Rattle.ab_grammar.specs.declared.Infix.{Infix}
use Rattle.ab_grammar.specs.declared.Infix.TheVariants.{Arrow, Or, And, Equal, Imply, With, Cons}
use Rattle.ab_grammar.specs.declared.Quant.{Quant}
use Rattle.ab_grammar.specs.Tree as tree
use Rattle.ab_grammar.specs.Tree.{Tree, Trees, no_trees, Focus}
use Rattle.ab_meaning.specs.ResolvedNames.{Name, Resolved, bound, known, free, apply, behind, abs, equal, bind, quantified}
use Rattle.ab_meaning.specs.Scopes.{Entry, Scope, in_proof, nominal_number, or_else, index_of, truth_named, variable_named, constant_at, settled_nominal, nominal_at, head_named, Found, or_unknown, made_of, made_of_both, connective, joined, empty_list, put_before, is_list, first_list, with_goal, with_focus_and_goal, pi_over, after, written, with_binder, with_binders, under, is_pi, resolved, applied, pi_applied, context, items_before, judgement}

-- the logical constants that signs and words stand for
abbrev pub IsWritten : Logical → Type 0
IsWritten logic.truth = Unit {0}
IsWritten logic.falsity = Unit {0}
IsWritten logic.conjunction = Unit {0}
IsWritten logic.disjunction = Unit {0}
IsWritten logic.implication = Unit {0}
IsWritten logic.judgement = Unit {0}
IsWritten logic.focused_judgement = Unit {0}
IsWritten logic.spec_implication = Unit {0}
IsWritten logic.spec_conjunction = Unit {0}
IsWritten _ = ⊥

-- a nominal name whose number none of the constants has
abbrev pub IsUnsettled : List Nominal → Name → ℕ → Type 0
IsUnsettled ns x n = (nominal_number x ≡ Some n) × (settled_nominal ns n ≡ None)

module _ (Known : Head ℕ → Ty → Type 0) (Free : Name → Type 0) where
  -- each head is known so, and each free name is such a one
  abbrev pub NamesAre : Resolved → Type 0
  NamesAre (bound i) = Unit {0}
  NamesAre (known h A) = Known h A
  NamesAre (free x p) = Free x
  NamesAre (apply e f) = NamesAre e × NamesAre f
  NamesAre (behind e f) = NamesAre e × NamesAre f
  NamesAre (abs x p e) = NamesAre e
  NamesAre (equal e f) = NamesAre e × NamesAre f
  NamesAre (bind q x p w e) = NamesAre e

  abbrev IfThere : Option Resolved → Type 0
  IfThere None = Unit {0}
  IfThere (Some e) = NamesAre e

  abbrev pub IfFound : Found → Type 0
  IfFound (Ok e) = NamesAre e
  IfFound (Err x) = Unit {0}

  else_there : (a b : Option Resolved) → IfThere a → IfThere b → IfThere (or_else a b)
  else_there None b p q = q
  else_there (Some x) b p q = p

  if_there : (t : Bool) (a b : Option Resolved) → IfThere a → IfThere b → IfThere (if t then a else b)
  if_there true a b p q = p
  if_there false a b p q = q

  bound_there : (n : Option ℕ) → IfThere (option_map bound n)
  bound_there None = tt
  bound_there (Some n) = tt

  unknown_found : (x : Name) (a : Option Resolved) → IfThere a → IfFound (or_unknown x a)
  unknown_found x None p = tt
  unknown_found x (Some e) p = p

  made_found : (f : Resolved → Resolved) → ((e : Resolved) → NamesAre e → NamesAre (f e)) → (a : Found) → IfFound a → IfFound (made_of f a)
  made_found f keeps (Ok e) p = keeps e p
  made_found f keeps (Err x) p = tt

  both_found : (f : Resolved → Resolved → Resolved) → ((d e : Resolved) → NamesAre d → NamesAre e → NamesAre (f d e))
      → (a b : Found) → IfFound a → IfFound b → IfFound (made_of_both f a b)
  both_found f keeps (Ok d) b p q = made_found (f d) (λ e r. keeps d e p r) b q
  both_found f keeps (Err x) b p q = tt

  pi_found : (e : Resolved) → NamesAre e → IfFound (pi_over e)
  pi_found (bound i) p = tt
  pi_found (known h A) p = tt
  pi_found (free x n) p = tt
  pi_found (apply e f) p = tt
  pi_found (behind e f) p = tt
  pi_found (abs x n e) p = p
  pi_found (equal e f) p = tt
  pi_found (bind q x n w e) p = tt

  after_found : (a : Found) → IfFound a → IfFound (after pi_over a)
  after_found (Ok e) p = pi_found e p
  after_found (Err x) p = tt

  binders_found : (kinds : List Name) (q : Quant) (bs : List tree.Binder) (a : Found) → IfFound a → IfFound (with_binders kinds q bs a)
  binders_found kinds q [] a p = p
  binders_found kinds q (b ∷ bs) a p =
      elim (written kinds b.type_of) as (λ w. IfFound (with_binder q b w (with_binders kinds q bs a)))
      [ Ok w ↦ made_found (bind (quantified q) b.name b.place w) (λ e r. r) (with_binders kinds q bs a) (binders_found kinds q bs a p) | Err x ↦ tt ]

  if_found : (t : Bool) (a b : Found) → IfFound a → IfFound b → IfFound (if t then a else b)
  if_found true a b p q = p
  if_found false a b p q = q

  -- what a scope knows is known so, and so is what signs and words stand for
  pub record Admits (sg : Signature) (entries : List Entry) (ns : List Nominal) : Type 0 where
    pub signs : (l : Logical) → IsWritten l → Known (logical l) (logical_type l)
    pub lists : Known (constant (codes "::")) (arrows (o ∷ olist ∷ []) olist)
    pub empty : Known (constant (codes "nil")) olist
    pub variables : All (λ (e : Entry). Known (variable (record { name = e.number; type = e.type })) e.type) entries
    pub constants : (x : Name) (A : Ty) → sg x ≡ Some A → Known (constant x) A
    pub nominals : All (λ (a : Nominal). Known (nominal a) a.type) ns
    pub unsettled : (x : Name) (n : ℕ) → IsUnsettled ns x n → Free x

  module _ (kinds : List Name) (constants : Signature) (entries : List Entry) (nominals : List Nominal) (ad : Admits constants entries nominals) where
    abbrev s : Scope
    s = record { kinds = kinds; constants = constants; variables = entries; nominals = nominals; place = in_proof }

    truth_there : (x : Name) → IfThere (truth_named x)
    truth_there x =
        if_there (bytes_eq x (codes "true")) (Some (known (logical logic.truth) prop))
        (if bytes_eq x (codes "false") then Some (known (logical logic.falsity) prop) else None) (ad.signs logic.truth tt)
        (if_there (bytes_eq x (codes "false")) (Some (known (logical logic.falsity) prop)) None (ad.signs logic.falsity tt) tt)

    variable_there : (es : List Entry) (x : Name) → All (λ (e : Entry). Known (variable (record { name = e.number; type = e.type })) e.type) es → IfThere (variable_named es x)
    variable_there [] x all = tt
    variable_there (e ∷ es) x all =
        if_there (bytes_eq e.name x) _ (variable_named es x) (All-head (λ (e : Entry). Known (variable (record { name = e.number; type = e.type })) e.type) e es all)
        (variable_there es x (All-tail (λ (e : Entry). Known (variable (record { name = e.number; type = e.type })) e.type) e es all))

    constant_there : (x : Name) (A : Option Ty) → constants x ≡ A → IfThere (constant_at x A)
    constant_there x None e = tt
    constant_there x (Some A) e = ad.constants x A e

    settled_there : (ns : List Nominal) (n : ℕ) → All (λ (a : Nominal). Known (nominal a) a.type) ns → IfThere (settled_nominal ns n)
    settled_there [] n all = tt
    settled_there (a ∷ ns) n all =
        if_there (a.number == n) (Some (known (nominal a) a.type)) (settled_nominal ns n) (All-head (λ (a : Nominal). Known (nominal a) a.type) a ns all)
        (settled_there ns n (All-tail (λ (a : Nominal). Known (nominal a) a.type) a ns all))

    free_there : (x : Name) (p n : ℕ) (r : Option Resolved) → nominal_number x ≡ Some n → settled_nominal nominals n ≡ r → IfThere r → IfThere (or_else r (Some (free x p)))
    free_there x p n None e f t = ad.unsettled x n (e, f)
    free_there x p n (Some r) e f t = t

    nominal_there : (x : Name) (p : ℕ) (n : Option ℕ) → nominal_number x ≡ n → IfThere (nominal_at nominals x p n)
    nominal_there x p None e = tt
    nominal_there x p (Some n) e = free_there x p n (settled_nominal nominals n) e refl (settled_there nominals n ad.nominals)

    head_there : (bs : List Name) (x : Name) (p : ℕ) → IfThere (head_named s bs x p)
    head_there bs x p =
        else_there (option_map bound (index_of bs x)) _ (bound_there (index_of bs x))
        (else_there (truth_named x) _ (truth_there x)
        (else_there (variable_named entries x) _ (variable_there entries x ad.variables)
        (else_there (constant_at x (constants x)) _ (constant_there x (constants x) refl) (nominal_there x p (nominal_number x) refl))))

    connective_found : (l : Logical) (a b : Found) → IsWritten l → IfFound a → IfFound b → IfFound (made_of_both (connective l) a b)
    connective_found l a b is p q = both_found (connective l) (λ d e r t. ((ad.signs l is, r), t)) a b p q

    joined_found : (i : Infix) (a b : Found) → IfFound a → IfFound b → IfFound (joined s i a b)
    joined_found Arrow a b p q = connective_found logic.implication a b tt p q
    joined_found Or a b p q = connective_found logic.disjunction a b tt p q
    joined_found And a b p q = connective_found logic.conjunction a b tt p q
    joined_found Equal a b p q = both_found equal (λ d e r t. (r, t)) a b p q
    joined_found Imply a b p q = connective_found logic.spec_implication a b tt p q
    joined_found With a b p q = connective_found logic.spec_conjunction a b tt p q
    joined_found Cons a b p q =
        both_found (λ t u. apply (apply (known (constant (codes "::")) (arrows (o ∷ olist ∷ []) olist)) t) u) (λ d e r t. ((ad.lists, r), t)) a b p q

    put_found : (l f : Found) → IfFound l → IfFound f → IfFound (made_of_both put_before l f)
    put_found l f p q = both_found put_before (λ d e r t. (r, (ad.lists, t))) l f p q

    first_found : (c : Tree) (f : Found) → IfFound f → IfFound (first_list c f)
    first_found c f p = if_found (is_list c) f (made_of_both put_before (Ok empty_list) f) p (put_found (Ok empty_list) f ad.empty p)

    goal_found : (l g : Found) → IfFound l → IfFound g → IfFound (with_goal l g)
    goal_found l g p q =
        both_found apply (λ d e r t. (r, t)) (made_of (apply (known (logical logic.judgement) (logical_type logic.judgement))) l) g
        (made_found (apply (known (logical logic.judgement) (logical_type logic.judgement))) (λ e r. (ad.signs logic.judgement tt, r)) l p) q

    focus_found : (l f g : Found) → IfFound l → IfFound f → IfFound g → IfFound (with_focus_and_goal l f g)
    focus_found l f g p q r =
        let head = known (logical logic.focused_judgement) (logical_type logic.focused_judgement) in
        both_found apply (λ d e r t. (r, t)) (made_of_both apply (made_of (apply head) l) f) g
        (both_found apply (λ d e r t. (r, t)) (made_of (apply head) l) f (made_found (apply head) (λ e r. (ad.signs logic.focused_judgement tt, r)) l p) q) r

    mutual
      pub names_are : (bs : List Name) (e : Tree) → IfFound (resolved s bs e)
      names_are bs (tree.name x p) = unknown_found x (head_named s bs x p) (head_there bs x p)
      names_are bs (tree.apply f vs p) =
          if_found (is_pi f) (pi_applied s bs vs) (applied s bs (resolved s bs f) vs) (pi_names bs vs) (applied_names bs (resolved s bs f) (names_are bs f) vs)
      names_are bs (tree.abs x e p) = made_found (abs x p) (λ d r. r) (resolved s (x ∷ bs) e) (names_are (x ∷ bs) e)
      names_are bs (tree.join i t u p) = joined_found i (resolved s bs t) (resolved s bs u) (names_are bs t) (names_are bs u)
      names_are bs (tree.bind q xs e p) = binders_found kinds q xs (resolved s (under xs bs) e) (names_are (under xs bs) e)
      names_are bs (tree.judge cs f g p) = judgement_names bs (context s bs cs) f (resolved s bs g) (context_names bs cs) (names_are bs g)

      applied_names : (bs : List Name) (a : Found) → IfFound a → (vs : Trees) → IfFound (applied s bs a vs)
      applied_names bs a p no_trees = p
      applied_names bs a p (tree.tree v vs) =
          applied_names bs (made_of_both apply a (resolved s bs v)) (both_found apply (λ d e r t. (r, t)) a (resolved s bs v) p (names_are bs v)) vs

      pi_names : (bs : List Name) (vs : Trees) → IfFound (pi_applied s bs vs)
      pi_names bs no_trees = tt
      pi_names bs (tree.tree v no_trees) = after_found (resolved s bs v) (names_are bs v)
      pi_names bs (tree.tree v (tree.tree u us)) = tt

      context_names : (bs : List Name) (cs : Trees) → IfFound (context s bs cs)
      context_names bs no_trees = ad.empty
      context_names bs (tree.tree c cs) = items_names bs (first_list c (resolved s bs c)) (first_found c (resolved s bs c) (names_are bs c)) cs

      items_names : (bs : List Name) (l : Found) → IfFound l → (cs : Trees) → IfFound (items_before s bs l cs)
      items_names bs l p no_trees = p
      items_names bs l p (tree.tree c cs) =
          items_names bs (made_of_both put_before l (resolved s bs c)) (put_found l (resolved s bs c) p (names_are bs c)) cs

      judgement_names : (bs : List Name) (l : Found) (f : Focus) (g : Found) → IfFound l → IfFound g → IfFound (judgement s bs l f g)
      judgement_names bs l tree.unfocused g p q = goal_found l g p q
      judgement_names bs l (tree.focused f) g p q = focus_found l (resolved s bs f) g p (names_are bs f) q

    -- of an expression whose names are resolved
    pub resolved_names : (e : Tree) (r : Resolved) → resolved s [] e ≡ Ok r → NamesAre r
    resolved_names e r is = subst IfFound is (names_are [] e)

-- each free name is a nominal name
abbrev pub FreeAreNominal : Resolved → Type 0
FreeAreNominal = NamesAre (λ h A. Unit {0}) (λ x. (n : ℕ) × (nominal_number x ≡ Some n))

pub free_are_nominal : (kinds : List Name) (constants : Signature) (entries : List Entry) (nominals : List Nominal) (e : Tree) (r : Resolved)
    → resolved (record { kinds = kinds; constants = constants; variables = entries; nominals = nominals; place = in_proof }) [] e ≡ Ok r → FreeAreNominal r
free_are_nominal kinds constants entries nominals e r is =
    resolved_names (λ h A. Unit {0}) (λ x. (n : ℕ) × (nominal_number x ≡ Some n)) kinds constants entries nominals
    (record { signs = λ l w. tt; lists = tt; empty = tt; variables = λ k d l. tt; constants = λ x A t. tt; nominals = λ k d l. tt; unsettled = λ x n u. (n, u.0) }) e r is
