-- The types of free names in a reading that makes the term of an assignment.
use Rattle.std.specs.List.{All}
use Rattle.std.proofs.Common.{◌≡◌, ℕ, ◌+◌, ◌<◌, Bool, true, false, List, [], ◌∷◌, ◌++◌, length, get_or, refl, sym, ap, ◌∙◌, subst, if◌then◌else◌}
use Rattle.std.proofs.lemmas.List.Elements.{All-nil, All-cons, All-head, All-tail, All-append}
use Rattle.ab_term.specs.Types.{Ty}
use Rattle.ab_term.specs.Terms.{Head}
use Rattle.ab_term.specs.Beta.{atom, abstraction, application}
use Rattle.ab_meaning.specs.Types.{is_listed}
use Rattle.ab_meaning.specs.ResolvedNames as resolved
use Rattle.ab_meaning.specs.ResolvedNames.{Name, Binding}
use Rattle.ab_meaning.specs.Readings.{Raw, Making, Reads, reads_free, reads_apply, reads_behind, reads_abs, reads_equal, reads_bind}
use Rattle.ab_inference.specs.Sketches.{Sketch, bound, known, free, apply, behind, abs, equal, bind, erase, term_of, Fit, count}
use Rattle.ab_inference.specs.Verdicts.{AreApart}
use Rattle.ab_infer.specs.Occurrences.{free_names, with_name, with_names}

module _ (made : Making) (base : ℕ) (v : ℕ → Ty) (types : Name → Ty) where
  -- each free name has the type of its variable
  abbrev NamesHave : Sketch → Type 0
  NamesHave (bound i n) = Unit {0}
  NamesHave (known h A) = Unit {0}
  NamesHave (free x j p) = types x ≡ v (base + j)
  NamesHave (apply e f) = NamesHave e × NamesHave f
  NamesHave (behind e f) = NamesHave e × NamesHave f
  NamesHave (abs x n p e) = NamesHave e
  NamesHave (equal n e f) = NamesHave e × NamesHave f
  NamesHave (bind q x n p w e) = NamesHave e

  both_parts : {f g t u : Raw} → application f t ≡ application g u → (f ≡ g) × (t ≡ u)
  both_parts e = ((cc), (cc))

  inside : {x y : Name} {A B : Ty} {t u : Raw} → abstraction A x t ≡ abstraction B y u → t ≡ u
  inside e = cc

  abbrev head_in : Raw → Head ℕ → Head ℕ
  head_in (atom g) h = g
  head_in (abstraction A x t) h = h
  head_in (application t u) h = h

  abbrev an_atom : Head ℕ → Raw
  an_atom h = atom h

  same_atom : (g h : Head ℕ) → an_atom g ≡ an_atom h → g ≡ h
  same_atom g h e = ap (λ (t : Raw). head_in t g) e

  at_name : {G : List Ty} {x : Name} {p : ℕ} {t : Raw} {A : Ty} {gs : List Ty} → Reads made types G (resolved.free x p) t A gs → t ≡ atom (made x (types x))
  at_name (reads_free f) = refl

  names_have : ((x : Name) (A B : Ty) → made x A ≡ made x B → A ≡ B) → (k : Sketch) {G : List Ty} {A : Ty} {gs : List Ty} {t : Raw} → Reads made types G (erase k) t A gs → t ≡ term_of base v made k → NamesHave k
  names_have tell (bound i n) r e = tt
  names_have tell (known h A) r e = tt
  names_have tell (free x j p) r e = tell x (types x) (v (base + j)) (same_atom (made x (types x)) (made x (v (base + j))) (sym (at_name r) ∙ e))
  names_have tell (apply a b) (reads_apply r s) e = let h = both_parts e in (names_have tell a r h.0, names_have tell b s h.1)
  names_have tell (behind a b) (reads_behind r s) e = let h = both_parts e in (names_have tell a r h.1, names_have tell b s h.0)
  names_have tell (abs x n p a) (reads_abs f r) e = names_have tell a r (inside e)
  names_have tell (equal n a b) (reads_equal r s) e = let h = both_parts e in let g = both_parts h.0 in (names_have tell a r g.1, names_have tell b s h.1)
  names_have tell (bind q x n p w a) (reads_bind f k r) e = let h = both_parts e in names_have tell a r (inside h.1)

  module _ (names : List Name) (apart : AreApart names) where
    abbrev IsTold : Name → Type 0
    IsTold x = (j : ℕ) → j < length names → get_or names j [] ≡ x → types x ≡ v (base + j)

    told : (k : Sketch) (ctx : List ℕ) (n : ℕ) → Fit names ctx n k → NamesHave k → All IsTold (free_names (erase k))
    told (bound i m) ctx n f h = All-nil IsTold
    told (known g A) ctx n f h = All-nil IsTold
    told (free x j p) ctx n f h = All-cons IsTold x [] (λ i l e. h ∙ ap (λ m. v (base + m)) (apart j i f.0 l (f.1 ∙ sym e))) (All-nil IsTold)
    told (apply a b) ctx n f h = All-append IsTold (free_names (erase a)) (free_names (erase b)) (told a ctx n f.0 h.0) (told b ctx (n + count a) f.1 h.1)
    told (behind a b) ctx n f h = All-append IsTold (free_names (erase a)) (free_names (erase b)) (told a ctx n f.0 h.0) (told b ctx (n + count a) f.1 h.1)
    told (abs x m p a) ctx n f h = told a (m ∷ ctx) _ f.1 h
    told (equal m a b) ctx n f h = All-append IsTold (free_names (erase a)) (free_names (erase b)) (told a ctx _ f.1 h.0) (told b ctx _ f.2 h.1)
    told (bind q x m p w a) ctx n f h = told a (m ∷ ctx) _ f.1 h

all_once : (P : Name → Type 0) (xs : List Name) (x : Name) → All P xs → P x → All P (with_name xs x)
all_once P xs x h p = go (is_listed xs x)
  where
    go : (b : Bool) → All P (if b then xs else xs ++ x ∷ [])
    go true = h
    go false = All-append P xs (x ∷ []) h (All-cons P x [] p (All-nil P))

all_names : (P : Name → Type 0) (xs ys : List Name) → All P xs → All P ys → All P (with_names xs ys)
all_names P xs [] h k = h
all_names P xs (y ∷ ys) h k = all_names P (with_name xs y) ys (all_once P xs y h (All-head P y ys k)) (All-tail P y ys k)

-- the name of each number has the type of the variable of that number
pub types_agree : (made : Making) (base : ℕ) (v : ℕ → Ty) (types : Name → Ty) (names : List Name) (k : Sketch) (t : Raw) (A : Ty) (gs : List Ty) → ((x : Name) (A B : Ty) → made x A ≡ made x B → A ≡ B)
    → AreApart names → names ≡ with_names [] (free_names (erase k)) → Fit names [] 0 k → Reads made types [] (erase k) t A gs → t ≡ term_of base v made k
    → (j : ℕ) → j < length names → types (get_or names j []) ≡ v (base + j)
types_agree made base v types names k t A gs tell apart order fit r e j l =
    let P = IsTold made base v types names apart in
    let here = told made base v types names apart k [] 0 fit (names_have made base v types tell k r e) in
    let all = subst (All P) (sym order) (all_names P [] (free_names (erase k)) (All-nil P) here) in
    all j [] l j l refl
