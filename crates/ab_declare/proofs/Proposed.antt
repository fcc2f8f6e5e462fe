-- What is kept of a clause at the type of formulas may be proposed.
use Rattle.std.proofs.Common.{◌≡◌, ℕ, suc, ◌<◌, Bool, true, false, ◌||◌, List, [], ◌∷◌, map, refl, sym, ap, subst, arith}
use Rattle.std.specs.Prelude.{not}
use Rattle.std.proofs.lemmas.List.Elements.{All-contains}
use Rattle.ab_term.specs.Types.{Ty, prop}
use Rattle.ab_term.specs.Terms.{Variable, Head, constant, logical, nominal, variable, index, Read}
use Rattle.ab_term.specs.Typing.{Signature, HasType}
use Rattle.ab_term.specs.Sameness.{same_numbered}
use Rattle.ab_term.specs.Variables.{variables}
use Rattle.ab_term.proofs.Same.{same_numbered-Decides}
use Rattle.ab_unifiers.specs.Replacements.{holds}
use Rattle.ab_unifiers.specs.Unifiers.{AreDifferent}
use Rattle.ab_unifiers.specs.Clauses.{Within}
use Rattle.ab_unifiers.proofs.Variables.{holds_contains}
use Rattle.ab_meaning.specs.ResolvedNames.{Name}
use Rattle.ab_meaning.specs.Readings.{Making}
use Rattle.ab_meaning.specs.Normal.{normal_form}
use Rattle.ab_infer.specs.Heads.{AreHeads, IsOrdinary}
use Rattle.ab_infer.proofs.Fitting.{reading_fits}
use Rattle.ab_infer.proofs.CanonicalFormulas.{stands}
use Rattle.ab_infer.proofs.HeadsKept.{heads_kept}
use Rattle.ab_infer.proofs.Normalising.{normal_form_typed}
use Rattle.ab_infer.proofs.ReadHeads.{ordinary_binders}
use Rattle.ab_infer.specs.Occurrences.{free_names}
use Rattle.ab_formulas.specs.Clauses.{ClauseVariable, Clause}
use Rattle.ab_formulas.specs.CaseClauses.{in_terms}
use Rattle.ab_formulas.specs.ProposedClauses.{IsProposed}
use Rattle.ab_declare.specs.KeptClauses.{kept_clause}
use Rattle.ab_declare.specs.ClauseReadings.{Parts, ClauseReading}
use Rattle.ab_declare.specs.ClauseMeanings.{variable_names, variable_from, variables_from, closes_body, IsKeptAs}
use Rattle.ab_declare.proofs.Resolving.{IsPlain, IsFine, heads_fit, are_plain}
use Rattle.ab_declare.proofs.Heads.{IsListed, listed_in_first, listed_in_second, variable_listed, heads_read, known_weaker, StandsOver, nameless, variables_held}
use Rattle.ab_declare.proofs.Closed.{proposed_kept}

-- THE VARIABLES ARE DIFFERENT

earlier : (m k : ℕ) (A : Ty) (types : Name → Ty) (names : List Name) → m < k → holds (map in_terms (variables_from k types names)) (record { name = m; type = A }) ≡ false
earlier m k A types [] l = refl
earlier m k A types (x ∷ xs) l = go (same_numbered (record { name = k; type = types x }) (record { name = m; type = A })) refl (earlier m (suc k) A types xs (omega (arith, l)))
  where
    go : (b : Bool) → same_numbered (record { name = k; type = types x }) (record { name = m; type = A }) ≡ b → holds (map in_terms (variables_from (suc k) types xs)) (record { name = m; type = A }) ≡ false
        → (b || holds (map in_terms (variables_from (suc k) types xs)) (record { name = m; type = A })) ≡ false
    go true e h =
        let same = ap (λ (y : Variable ℕ). y.name) ((same_numbered-Decides (record { name = k; type = types x }) (record { name = m; type = A })).0 e) in
        absurd (omega (arith, l, same))
    go false e h = h

different_from : (n : ℕ) (types : Name → Ty) (names : List Name) → AreDifferent (map in_terms (variables_from n types names))
different_from n types [] = tt
different_from n types (x ∷ xs) = (earlier n (suc n) (types x) types xs (omega arith), different_from (suc n) types xs)

plain_over : (ys : List (Variable ℕ)) (h : Head ℕ) → IsPlain h → StandsOver ys h
plain_over ys (constant c) p = tt
plain_over ys (logical l) p = tt
plain_over ys (nominal a) p = absurd p.0
plain_over ys (variable y) p = absurd p.0
plain_over ys (index i) p = tt

plain_ordinary : (h : Head ℕ) → IsPlain h → IsOrdinary h
plain_ordinary h p = p.1

module _ (sg : Signature) (n : ℕ) (e : Parts) (A B : Ty) (fine_head : IsFine sg e.head) (fine_body : IsFine sg e.body) where
  abbrev names : List Name
  names = variable_names e

  abbrev made : Making
  made = variable_from n names

  module _ (r : ClauseReading made e A B) where
    abbrev vs : List ClauseVariable
    vs = variables_from n r.types names

    abbrev ys : List (Variable ℕ)
    ys = map in_terms vs

    abbrev head : Read
    head = normal_form sg [] r.head

    abbrev body : Read
    body = normal_form sg [] r.body

    head_over : AreHeads (StandsOver ys) head
    head_over =
        heads_kept (StandsOver ys) (λ i. tt) sg [] r.head
        (heads_read (StandsOver ys) (IsListed names) made r.types (λ i. tt) (λ A. tt) (λ q A f. tt) (λ x l f. variable_listed n r.types names x l)
        (known_weaker IsPlain (StandsOver ys) (plain_over ys) e.head (are_plain sg e.head fine_head))
        (listed_in_first (free_names e.head) (free_names e.body)) r.reads_head)

    body_over : AreHeads (StandsOver ys) body
    body_over =
        heads_kept (StandsOver ys) (λ i. tt) sg [] r.body
        (heads_read (StandsOver ys) (IsListed names) made r.types (λ i. tt) (λ A. tt) (λ q A f. tt) (λ x l f. variable_listed n r.types names x l)
        (known_weaker IsPlain (StandsOver ys) (plain_over ys) e.body (are_plain sg e.body fine_body))
        (listed_in_second (free_names e.head) (free_names e.body)) r.reads_body)

    body_ordinary : AreHeads IsOrdinary body
    body_ordinary =
        heads_kept IsOrdinary (λ i. tt) sg [] r.body
        (heads_read IsOrdinary (IsListed names) made r.types (λ i. tt) (λ A. tt) ordinary_binders (λ x l f. f)
        (known_weaker IsPlain IsOrdinary plain_ordinary e.body (are_plain sg e.body fine_body))
        (listed_in_second (free_names e.head) (free_names e.body)) r.reads_body)

    head_typed : HasType sg [] head A
    head_typed = normal_form_typed sg (reading_fits sg made r.types (λ x C G. refl) (heads_fit sg e.head fine_head) r.reads_head)

    body_typed : HasType sg [] body B
    body_typed = normal_form_typed sg (reading_fits sg made r.types (λ x C G. refl) (heads_fit sg e.body fine_body) r.reads_body)

    within : (t : Read) → AreHeads (StandsOver ys) t → Within (variables t) ys
    within t h y g = All-contains (λ z. holds ys z ≡ true) (variables t) y (variables_held ys t h) (holds_contains (variables t) y g)

    pub within_head : Within (variables head) ys
    within_head = within head head_over

    pub within_body : Within (variables body) ys
    within_body = within body body_over

    pub reading_proposed : A ≡ prop → B ≡ prop → (closes : Bool) → IsProposed sg (kept_clause closes vs head body)
    reading_proposed a b closes =
        let typed : HasType sg [] body prop = subst (HasType sg [] body) b body_typed in
        proposed_kept sg closes vs head body (different_from n r.types names) (subst (HasType sg [] head) a head_typed)
        (record { typed = typed; stands = stands sg body [] tt body_ordinary typed }) (nameless ys head head_over) (nameless ys body body_over) within_head within_body

pub kept_proposed : (sg : Signature) (n : ℕ) (e : Parts) (A B : Ty) (k : Clause) → A ≡ prop → B ≡ prop → IsFine sg e.head → IsFine sg e.body → IsKeptAs sg n e A B k → IsProposed sg k
kept_proposed sg n e A B k a b fine_head fine_body h =
    subst (IsProposed sg) (sym h.is) (reading_proposed sg n e A B fine_head fine_body h.one.reading a b (closes_body A (normal_form sg [] h.one.reading.head)))
