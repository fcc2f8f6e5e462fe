-- What rows add to a table.
use Rattle.std.proofs.Common.{◌≡◌, ℕ, zero, suc, ◌+◌, ◌<◌, List, [], ◌∷◌, ◌++◌, length, get_or, refl, sym, ◌∙◌, ap, subst, arith, length-append, append_assoc, append-nil}
use Rattle.std.proofs.lemmas.List.{get_or_append_left, get_or_push}
use Rattle.std.specs.Map.{keys_of}
use Rattle.ab_term.specs.Types.{prop}
use Rattle.ab_term.specs.Constants.{Constant, names}
use Rattle.ab_types.specs.Entries.{a_kind, a_constant, Table, kinds, types, constants, IsExtendedBy}
use Rattle.ab_types.specs.Ids.{HoldsType, HoldsView, type_of, seen_type}
use Rattle.ab_types.specs.declared.ids.TypeId.{TypeId}
use Rattle.ab_types.specs.declared.ids.TypeView.{TypeView}
use Rattle.ab_types.specs.Layout.{Kept, Row, kind_row, type_row, constant_row, entry_of, with_rows, StandOn}
use Rattle.ab_types.proofs.Entries.{kinds-append, types-append, constants-append, names-append, holds_type, holds_view, same_type, same_seen}

abbrev pub kind_rows : List Row → List (List ℕ)
kind_rows [] = []
kind_rows (kind_row k ∷ rs) = k ∷ kind_rows rs
kind_rows (type_row v ∷ rs) = kind_rows rs
kind_rows (constant_row c ∷ rs) = kind_rows rs

abbrev pub type_rows : List Row → List TypeView
type_rows [] = []
type_rows (kind_row k ∷ rs) = type_rows rs
type_rows (type_row v ∷ rs) = v ∷ type_rows rs
type_rows (constant_row c ∷ rs) = type_rows rs

abbrev pub constant_rows : List Row → List Kept
constant_rows [] = []
constant_rows (kind_row k ∷ rs) = constant_rows rs
constant_rows (type_row v ∷ rs) = constant_rows rs
constant_rows (constant_row c ∷ rs) = c ∷ constant_rows rs

pub with_rows-append : (t : Table) (rs qs : List Row) → with_rows t (rs ++ qs) ≡ with_rows (with_rows t rs) qs
with_rows-append t [] qs = refl
with_rows-append t (r ∷ rs) qs = with_rows-append (t ++ entry_of t r ∷ []) rs qs

pub stand-append : (t : Table) (rs qs : List Row) → StandOn t rs → StandOn (with_rows t rs) qs → StandOn t (rs ++ qs)
stand-append t [] qs a b = b
stand-append t (r ∷ rs) qs a b = (a.0, stand-append (t ++ entry_of t r ∷ []) rs qs a.1 b)

pub stand-front : (t : Table) (rs qs : List Row) → StandOn t (rs ++ qs) → StandOn t rs
stand-front t [] qs a = tt
stand-front t (r ∷ rs) qs a = (a.0, stand-front (t ++ entry_of t r ∷ []) rs qs a.1)

pub rows_extend : (t : Table) (rs : List Row) → IsExtendedBy t (with_rows t rs)
rows_extend t [] = ([], sym (append-nil _))
rows_extend t (r ∷ rs) =
    let e = entry_of t r in
    let more = rows_extend (t ++ e ∷ []) rs in
    (e ∷ more.0, more.1 ∙ append_assoc t (e ∷ []) more.0)

pub length-with_rows : (t : Table) (rs : List Row) → length (with_rows t rs) ≡ length t + length rs
length-with_rows t [] = omega arith
length-with_rows t (r ∷ rs) = omega (arith, length-with_rows (t ++ entry_of t r ∷ []) rs, length-append t (entry_of t r ∷ []))

pub kinds-with_rows : (t : Table) (rs : List Row) → kinds (with_rows t rs) ≡ kinds t ++ kind_rows rs
kinds-with_rows t [] = sym (append-nil _)
kinds-with_rows t (kind_row k ∷ rs) =
    kinds-with_rows (t ++ a_kind k ∷ []) rs ∙ ap (λ l. l ++ kind_rows rs) (kinds-append t (a_kind k ∷ [])) ∙ append_assoc (kinds t) (k ∷ []) (kind_rows rs)
kinds-with_rows t (type_row v ∷ rs) =
    let e = entry_of t (type_row v) in
    kinds-with_rows (t ++ e ∷ []) rs ∙ ap (λ l. l ++ kind_rows rs) (kinds-append t (e ∷ []) ∙ (append-nil _))
kinds-with_rows t (constant_row c ∷ rs) =
    let e = entry_of t (constant_row c) in
    kinds-with_rows (t ++ e ∷ []) rs ∙ ap (λ l. l ++ kind_rows rs) (kinds-append t (e ∷ []) ∙ (append-nil _))

pub types_grow : (t : Table) (rs : List Row) → length (types (with_rows t rs)) ≡ length (types t) + length (type_rows rs)
types_grow t [] = omega arith
types_grow t (kind_row k ∷ rs) =
    let e = a_kind k in
    types_grow (t ++ e ∷ []) rs ∙ ap (λ l. length l + length (type_rows rs)) (types-append t (e ∷ []) ∙ (append-nil _))
types_grow t (type_row v ∷ rs) =
    let e = entry_of t (type_row v) in
    omega (arith, types_grow (t ++ e ∷ []) rs, ap length (types-append t (e ∷ [])), length-append (types t) (seen_type t v ∷ []))
types_grow t (constant_row c ∷ rs) =
    let e = entry_of t (constant_row c) in
    types_grow (t ++ e ∷ []) rs ∙ ap (λ l. length l + length (type_rows rs)) (types-append t (e ∷ []) ∙ (append-nil _))

pub names-with_rows : (t : Table) (rs : List Row) → names (constants (with_rows t rs)) ≡ names (constants t) ++ keys_of (constant_rows rs)
names-with_rows t [] = sym (append-nil _)
names-with_rows t (kind_row k ∷ rs) =
    let e = a_kind k in
    names-with_rows (t ++ e ∷ []) rs ∙ ap (λ l. names l ++ keys_of (constant_rows rs)) (constants-append t (e ∷ []) ∙ (append-nil _))
names-with_rows t (type_row v ∷ rs) =
    let e = entry_of t (type_row v) in
    names-with_rows (t ++ e ∷ []) rs ∙ ap (λ l. names l ++ keys_of (constant_rows rs)) (constants-append t (e ∷ []) ∙ (append-nil _))
names-with_rows t (constant_row c ∷ rs) =
    let d : Constant = record { name = c.0; type = type_of t c.1 } in
    names-with_rows (t ++ a_constant d ∷ []) rs
    ∙ ap (λ l. l ++ keys_of (constant_rows rs)) (ap names (constants-append t (a_constant d ∷ [])) ∙ names-append (constants t) (d ∷ []))
    ∙ append_assoc (names (constants t)) (c.0 ∷ []) (keys_of (constant_rows rs))

-- the type of a place is what its row says in the whole table

pub holds_later : (t : Table) (rs : List Row) (v : TypeView) → HoldsView t v → HoldsView (with_rows t rs) v
holds_later t rs v h = let more = rows_extend t rs in subst (λ w. HoldsView w v) (sym more.1) (holds_view t more.0 v h)

pub seen_later : (t : Table) (rs : List Row) (v : TypeView) → HoldsView t v → seen_type (with_rows t rs) v ≡ seen_type t v
seen_later t rs v h = let more = rows_extend t rs in ap (λ w. seen_type w v) more.1 ∙ same_seen t more.0 v h

pub held_later : (t : Table) (rs : List Row) (a : TypeId) → HoldsType t a → HoldsType (with_rows t rs) a
held_later t rs a h = let more = rows_extend t rs in subst (λ w. HoldsType w a) (sym more.1) (holds_type t more.0 a h)

pub type_later : (t : Table) (rs : List Row) (a : TypeId) → HoldsType t a → type_of (with_rows t rs) a ≡ type_of t a
type_later t rs a h = let more = rows_extend t rs in ap (λ w. type_of w a) more.1 ∙ same_type t more.0 a h

pub record ReadsAt (t : Table) (m : ℕ) (v : TypeView) : Type 0 where
  pub held : HoldsView t v
  pub is : get_or (types t) m prop ≡ seen_type t v

pub record NamesAt (t : Table) (m : ℕ) (c : Kept) (e : Constant) : Type 0 where
  pub held : HoldsType t c.1
  pub is : get_or (constants t) m e ≡ record { name = c.0; type = type_of t c.1 }

pub type_at : (t : Table) (rs : List Row) (i m : ℕ) (d : TypeView) → StandOn t rs → i < length (type_rows rs) → m ≡ length (types t) + i → ReadsAt (with_rows t rs) m (get_or (type_rows rs) i d)
type_at t [] i m d stand h place = absurd (omega arith)
type_at t (kind_row k ∷ rs) i m d stand h place =
    let e = a_kind k in
    type_at (t ++ e ∷ []) rs i m d stand.1 h (place ∙ ap (λ l. length l + i) (sym (types-append t (e ∷ []) ∙ (append-nil _))))
type_at t (constant_row c ∷ rs) i m d stand h place =
    let e = entry_of t (constant_row c) in
    type_at (t ++ e ∷ []) rs i m d stand.1 h (place ∙ ap (λ l. length l + i) (sym (types-append t (e ∷ []) ∙ (append-nil _))))
type_at t (type_row v ∷ rs) zero m d stand h place =
    let e = entry_of t (type_row v) in
    let next = t ++ e ∷ [] in
    let more = rows_extend next rs in
    let here : get_or (types next) m prop ≡ seen_type t v = ap (λ l. get_or l m prop) (types-append t (e ∷ [])) ∙ get_or_push (types t) (seen_type t v) prop m (omega arith) in
    let room : m < length (types next) = omega (arith, ap length (types-append t (e ∷ [])), length-append (types t) (seen_type t v ∷ [])) in
    record {
      held = holds_later next rs v (holds_view t (e ∷ []) v stand.0);
      is = type_later next rs (record { 0 = m }) room ∙ here ∙ sym (seen_later next rs v (holds_view t (e ∷ []) v stand.0) ∙ same_seen t (e ∷ []) v stand.0);
    }
type_at t (type_row v ∷ rs) (suc i) m d stand h place =
    let e = entry_of t (type_row v) in
    type_at (t ++ e ∷ []) rs i m d stand.1 (omega arith) (omega (arith, place, ap length (types-append t (e ∷ [])), length-append (types t) (seen_type t v ∷ [])))

constant_later : (t : Table) (rs : List Row) (m : ℕ) (d : Constant) → m < length (constants t) → get_or (constants (with_rows t rs)) m d ≡ get_or (constants t) m d
constant_later t rs m d h =
    let more = rows_extend t rs in
    ap (λ w. get_or (constants w) m d) more.1 ∙ ap (λ l. get_or l m d) (constants-append t more.0) ∙ get_or_append_left (constants t) (constants more.0) d m h

pub constant_at : (t : Table) (rs : List Row) (i m : ℕ) (d : Kept) (e : Constant) → StandOn t rs → i < length (constant_rows rs) → m ≡ length (constants t) + i → NamesAt (with_rows t rs) m (get_or (constant_rows rs) i d) e
constant_at t [] i m d x stand h place = absurd (omega arith)
constant_at t (kind_row k ∷ rs) i m d x stand h place =
    let e = a_kind k in
    constant_at (t ++ e ∷ []) rs i m d x stand.1 h (place ∙ ap (λ l. length l + i) (sym (constants-append t (e ∷ []) ∙ (append-nil _))))
constant_at t (type_row v ∷ rs) i m d x stand h place =
    let e = entry_of t (type_row v) in
    constant_at (t ++ e ∷ []) rs i m d x stand.1 h (place ∙ ap (λ l. length l + i) (sym (constants-append t (e ∷ []) ∙ (append-nil _))))
constant_at t (constant_row c ∷ rs) zero m d x stand h place =
    let f : Constant = record { name = c.0; type = type_of t c.1 } in
    let e = a_constant f in
    let next = t ++ e ∷ [] in
    let here : get_or (constants next) m x ≡ f = ap (λ l. get_or l m x) (constants-append t (e ∷ [])) ∙ get_or_push (constants t) f x m (omega arith) in
    let room : m < length (constants next) = omega (arith, ap length (constants-append t (e ∷ [])), length-append (constants t) (f ∷ [])) in
    let still : type_of (with_rows next rs) c.1 ≡ type_of t c.1 = type_later next rs c.1 (holds_type t (e ∷ []) c.1 stand.0) ∙ same_type t (e ∷ []) c.1 stand.0 in
    record {
      held = held_later next rs c.1 (holds_type t (e ∷ []) c.1 stand.0);
      is = constant_later next rs m x room ∙ here ∙ ap (λ A. record { name = c.0; type = A }) (sym still);
    }
constant_at t (constant_row c ∷ rs) (suc i) m d x stand h place =
    let f : Constant = record { name = c.0; type = type_of t c.1 } in
    let e = a_constant f in
    constant_at (t ++ e ∷ []) rs i m d x stand.1 (omega arith) (omega (arith, place, ap length (constants-append t (e ∷ [])), length-append (constants t) (f ∷ [])))
