-- Predicates that are put behind a table one after another.
use Rattle.std.specs.Prelude.{◌≡◌, ℕ, List, [], ◌∷◌, ◌++◌, map, ◌↔◌, Bool, true, false, Option, Some, None, is_some, IsNone, Result, Ok, Err, if◌then◌else◌, bytes_eq, All, Contains}
use Rattle.std.specs.List.{list_any}
use Rattle.std.proofs.Common.{refl, sym, ◌∙◌, ap, subst, append_assoc, append-nil}
use Rattle.std.proofs.lemmas.List.{map-append}
use Rattle.std.proofs.lemmas.List.Elements.{All-nil, All-cons, All-head, All-tail, All-append, All-weaker}
use Rattle.ab_term.specs.Types.{Ty}
use Rattle.ab_term.specs.Constants.{Constant, constant, names}
use Rattle.ab_norm.specs.ab_types.specs.Entries.{Table, a_constant, kinds, constants, IsExtendedBy}
use Rattle.ab_norm.specs.ab_types.specs.Ids.{HoldsConstant, constant_of}
use Rattle.ab_norm.specs.ab_types.specs.declared.ids.ConstId.{ConstId}
use Rattle.ab_norm.specs.ab_types.proofs.Entries.{names-append, constants-append, kinds-append, holds_constant, same_constant}
use Rattle.ab_grammar.specs.CommandTrees.{Defined}
use Rattle.ab_meaning.specs.Types.{written_type}
use Rattle.ab_declare.specs.declared.refusal.Refusal.{Refusal}
use Rattle.ab_declare.specs.declared.refusal.Refusal.TheVariants.{Clash}
use Rattle.ab_declare.specs.DefinitionCommands.{before, of_type, predicates_found}
use Rattle.ab_inference.specs.WrittenTypes.{WrittenAnswers}
use Rattle.ab_inference.specs.declared.fault.InferFault.{InferFault}
use Rattle.ab_inference.specs.declared.fault.InferFault.TheVariants as fault
use Rattle.ab_declare.proofs.Taking.{contains_any, any_contains}
use Rattle.ab_declare.specs.Halts.{halt_for, Halts, ArePut, ArentPut, HasKinds}

abbrev Name : Type 0
Name = List ℕ

-- what is found of the first, and of the rest
pub record FirstFound (ks us : List Name) (d : Defined) (ds : List Defined) (ps : List Constant) : Type 0 where
  pub type : Ty
  pub rest : List Constant
  pub new_name : list_any (bytes_eq d.name) us ≡ false
  pub written : written_type ks d.type_of ≡ Ok type
  pub found : predicates_found ks (us ++ d.name ∷ []) ds ≡ Ok rest
  pub is : ps ≡ constant d.name type ∷ rest

-- the first is fine
pub first_fine : (ks us : List Name) (d : Defined) (ds : List Defined) (A : Ty) → list_any (bytes_eq d.name) us ≡ false → written_type ks d.type_of ≡ Ok A
    → predicates_found ks us (d ∷ ds) ≡ before (constant d.name A) (predicates_found ks (us ++ d.name ∷ []) ds)
first_fine ks us d ds A new_name written =
    ap (λ b. if b then Err (Clash d.name None) else of_type d.name (written_type ks d.type_of) (predicates_found ks (us ++ d.name ∷ []) ds)) new_name
    ∙ ap (λ w. of_type d.name w (predicates_found ks (us ++ d.name ∷ []) ds)) written

pub first_found : (ks us : List Name) (d : Defined) (ds : List Defined) (ps : List Constant) → predicates_found ks us (d ∷ ds) ≡ Ok ps → FirstFound ks us d ds ps
first_found ks us d ds ps e = by_name (list_any (bytes_eq d.name) us) refl
  where
    rest : Result (List Constant) Refusal
    rest = predicates_found ks (us ++ d.name ∷ []) ds

    by_rest : (A : Ty) (r : Result (List Constant) Refusal) → list_any (bytes_eq d.name) us ≡ false → written_type ks d.type_of ≡ Ok A → predicates_found ks (us ++ d.name ∷ []) ds ≡ r
        → before (constant d.name A) r ≡ Ok ps → FirstFound ks us d ds ps
    by_rest A (Ok qs) n w f g = record { type = A; rest = qs; new_name = n; written = w; found = f; is = cc }
    by_rest A (Err q) n w f g = absurd (cc)

    by_type : (w : Result Ty Name) → list_any (bytes_eq d.name) us ≡ false → written_type ks d.type_of ≡ w → of_type d.name w (predicates_found ks (us ++ d.name ∷ []) ds) ≡ Ok ps → FirstFound ks us d ds ps
    by_type (Ok A) n w g = by_rest A (predicates_found ks (us ++ d.name ∷ []) ds) n w refl g
    by_type (Err x) n w g = absurd (cc)

    by_name : (b : Bool) → list_any (bytes_eq d.name) us ≡ b → FirstFound ks us d ds ps
    by_name true n =
        let bad : Err (Clash d.name None) ≡ Ok ps = sym (ap (λ b. if b then Err (Clash d.name None) else of_type d.name (written_type ks d.type_of) (predicates_found ks (us ++ d.name ∷ []) ds)) n) ∙ e in
        absurd (cc)
    by_name false n =
        by_type (written_type ks d.type_of) n refl (sym (ap (λ b. if b then Err (Clash d.name None) else of_type d.name (written_type ks d.type_of) (predicates_found ks (us ++ d.name ∷ []) ds)) n) ∙ e)

-- these stand before what is found of the others
abbrev pub onto : List Constant → Result (List Constant) Refusal → Result (List Constant) Refusal
onto ps (Ok qs) = Ok (ps ++ qs)
onto ps (Err r) = Err r

onto_none : (r : Result (List Constant) Refusal) → onto [] r ≡ r
onto_none (Ok qs) = refl
onto_none (Err r) = refl

before_onto : (p : Constant) (ps : List Constant) (r : Result (List Constant) Refusal) → before p (onto ps r) ≡ onto (p ∷ ps) r
before_onto p ps (Ok qs) = refl
before_onto p ps (Err r) = refl

pub found_behind : (ks us : List Name) (xs ys : List Defined) (ps : List Constant) → predicates_found ks us xs ≡ Ok ps → predicates_found ks us (xs ++ ys) ≡ onto ps (predicates_found ks (us ++ names ps) ys)
found_behind ks us [] ys ps e =
    let none : ps ≡ [] = cc in
    sym (onto_none (predicates_found ks us ys)) ∙ ap (λ vs. onto [] (predicates_found ks vs ys)) (sym (append-nil us)) ∙ ap (λ qs. onto qs (predicates_found ks (us ++ names qs) ys)) (sym none)
found_behind ks us (d ∷ xs) ys ps e =
    let f = first_found ks us d xs ps e in
    first_fine ks us d (xs ++ ys) f.type f.new_name f.written
    ∙ ap (before (constant d.name f.type)) (found_behind ks (us ++ d.name ∷ []) xs ys f.rest f.found)
    ∙ before_onto (constant d.name f.type) f.rest (predicates_found ks ((us ++ d.name ∷ []) ++ names f.rest) ys)
    ∙ ap (λ vs. onto (constant d.name f.type ∷ f.rest) (predicates_found ks vs ys)) (append_assoc us (d.name ∷ []) (names f.rest))
    ∙ ap (λ qs. onto qs (predicates_found ks (us ++ names qs) ys)) (sym f.is)

-- A PREDICATE THAT IS PUT, or can't be

-- whether a name is in use

pub in_use : {X : Type 0} (o : Option X) (x : Name) (us : List Name) → is_some o ≡ true → (IsNone o ↔ ¬ Contains us x) → list_any (bytes_eq x) us ≡ true
in_use None x us some absent = let bad : false ≡ true = some in absurd (cc)
in_use (Some v) x us some absent = go (list_any (bytes_eq x) us) refl
  where
    go : (b : Bool) → list_any (bytes_eq x) us ≡ b → list_any (bytes_eq x) us ≡ true
    go true e = e
    go false e = let bad = absent.1 (λ c. let bad : false ≡ true = sym e ∙ contains_any x us c in absurd (cc)) in absurd (cc)

pub not_in_use : {X : Type 0} (o : Option X) (x : Name) (us : List Name) → is_some o ≡ false → (IsNone o ↔ ¬ Contains us x) → list_any (bytes_eq x) us ≡ false
not_in_use (Some v) x us none absent = let bad : true ≡ false = none in absurd (cc)
not_in_use None x us none absent = go (list_any (bytes_eq x) us) refl
  where
    go : (b : Bool) → list_any (bytes_eq x) us ≡ b → list_any (bytes_eq x) us ≡ false
    go false e = e
    go true e = absurd (absent.0 refl (any_contains x us e))

pub taken : (ks us : List Name) (d : Defined) (ds : List Defined) (x : Name) → list_any (bytes_eq d.name) us ≡ true → x ≡ d.name → predicates_found ks us (d ∷ ds) ≡ Err (Clash x None)
taken ks us d ds x e is =
    ap (λ b. if b then Err (Clash d.name None) else of_type d.name (written_type ks d.type_of) (predicates_found ks (us ++ d.name ∷ []) ds)) e
    ∙ ap (λ y. Err (Clash y None)) (sym is)

pub not_written : (t new : Table) (d : Defined) (f : InferFault) → list_any (bytes_eq d.name) (names (constants t)) ≡ false → WrittenAnswers t new d.type_of (Err f) → Halts (ArentPut t (d ∷ [])) (halt_for f)
not_written t new d (fault.Unknown x) e a =
    ap (λ b. if b then Err (Clash d.name None) else of_type d.name (written_type (kinds t) d.type_of) (Ok [])) e
    ∙ ap (λ w. of_type d.name w (Ok [])) a
not_written t new d (fault.TypeClash p) e a = absurd a
not_written t new d (fault.Untyped p) e a = absurd a
not_written t new d (fault.Memory m) e a = tt

pub put_one : (t mid new : Table) (d : Defined) (id : ConstId) (x : Name) (A B : Ty) → list_any (bytes_eq d.name) (names (constants t)) ≡ false → written_type (kinds t) d.type_of ≡ Ok A → B ≡ A → x ≡ d.name
    → constants mid ≡ constants t → HoldsConstant new id → constant_of new id ≡ constant x B → new ≡ mid ++ a_constant (constant x B) ∷ [] → ArePut t new (d ∷ []) (id ∷ [])
put_one t mid new d id x A B n w b y same held is e =
    let one : constant_of new id ≡ constant d.name A = is ∙ ap (λ z. constant z B) y ∙ ap (constant d.name) b in
    record {
      found = first_fine (kinds t) (names (constants t)) d [] A n w ∙ ap (λ c. Ok (c ∷ [])) (sym one);
      held = All-cons (HoldsConstant new) id [] held (All-nil (HoldsConstant new));
      constants = ap constants e ∙ constants-append mid (a_constant (constant x B) ∷ []) ∙ ap (λ cs. cs ++ constant x B ∷ []) same ∙ ap (λ c. constants t ++ c ∷ []) (sym is);
    }

pub no_kind_more : (mid new : Table) (c : Constant) → new ≡ mid ++ a_constant c ∷ [] → kinds new ≡ kinds mid
no_kind_more mid new c e = ap kinds e ∙ kinds-append mid (a_constant c ∷ []) ∙ append-nil (kinds mid)

-- PUT BEHIND A TABLE

module _ (t u : Table) (part : IsExtendedBy t u) where
  pub still_held : (c : ConstId) → HoldsConstant t c → HoldsConstant u c
  still_held c h = subst (λ w. HoldsConstant w c) (sym part.1) (holds_constant t part.0 c h)

  still_all : (cs : List ConstId) → All (HoldsConstant t) cs → All (HoldsConstant u) cs
  still_all = All-weaker (HoldsConstant t) (HoldsConstant u) still_held

  pub still_are : (cs : List ConstId) → All (HoldsConstant t) cs → map (constant_of u) cs ≡ map (constant_of t) cs
  still_are [] all = refl
  still_are (c ∷ cs) all =
      ap (λ x. x ∷ map (constant_of u) cs) (ap (λ w. constant_of w c) part.1 ∙ same_constant t part.0 c (All-head (HoldsConstant t) c cs all))
      ∙ ap (λ xs. constant_of t c ∷ xs) (still_are cs (All-tail (HoldsConstant t) c cs all))

-- so far these were put, and no kind came
module _ (t u : Table) (xs : List Defined) (ids : List ConstId) (put : ArePut t u xs ids) (same : kinds u ≡ kinds t) where
  used_then : names (constants u) ≡ names (constants t) ++ names (map (constant_of u) ids)
  used_then = ap names put.constants ∙ names-append (constants t) (map (constant_of u) ids)

  found_then : (ys : List Defined) → predicates_found (kinds t) (names (constants t)) (xs ++ ys) ≡ onto (map (constant_of u) ids) (predicates_found (kinds u) (names (constants u)) ys)
  found_then ys =
      found_behind (kinds t) (names (constants t)) xs ys (map (constant_of u) ids) put.found
      ∙ ap (λ us. onto (map (constant_of u) ids) (predicates_found (kinds t) us ys)) (sym used_then)
      ∙ ap (λ ks. onto (map (constant_of u) ids) (predicates_found ks (names (constants u)) ys)) (sym same)

  pub put_more : (v : Table) (d : Defined) (id : ConstId) → IsExtendedBy u v → ArePut u v (d ∷ []) (id ∷ []) → ArePut t v (xs ++ d ∷ []) (ids ++ id ∷ [])
  put_more v d id part next = record {
    found =
        found_then (d ∷ []) ∙ ap (onto (map (constant_of u) ids)) next.found
        ∙ ap (λ ps. Ok (ps ++ constant_of v id ∷ [])) (sym (still_are u v part ids put.held))
        ∙ ap Ok (sym (map-append (constant_of v) ids (id ∷ [])));
    held = All-append (HoldsConstant v) ids (id ∷ []) (still_all u v part ids put.held) next.held;
    constants =
        next.constants ∙ ap (λ cs. cs ++ constant_of v id ∷ []) put.constants ∙ append_assoc (constants t) (map (constant_of u) ids) (constant_of v id ∷ [])
        ∙ ap (λ ps. constants t ++ (ps ++ constant_of v id ∷ [])) (sym (still_are u v part ids put.held))
        ∙ ap (λ ps. constants t ++ ps) (sym (map-append (constant_of v) ids (id ∷ [])));
  }

  -- the next can't be put; what is found of the first is not looked for behind
  pub put_stops : (d : Defined) (ys : List Defined) (r : Refusal) → ArentPut u (d ∷ []) r → ArentPut t (xs ++ d ∷ ys) r
  put_stops d ys r e = found_then (d ∷ ys) ∙ ap (onto (map (constant_of u) ids)) (stops (kinds u) (names (constants u)) d ys r e)
    where
      stops : (ks us : List Name) (d : Defined) (ys : List Defined) (r : Refusal) → predicates_found ks us (d ∷ []) ≡ Err r → predicates_found ks us (d ∷ ys) ≡ Err r
      stops ks us d ys r e = by_name (list_any (bytes_eq d.name) us) refl
        where
          by_type : (w : Result Ty Name) → list_any (bytes_eq d.name) us ≡ false → written_type ks d.type_of ≡ w → of_type d.name w (Ok []) ≡ Err r → predicates_found ks us (d ∷ ys) ≡ Err r
          by_type (Ok A) n w g = absurd (cc)
          by_type (Err x) n w g =
              ap (λ b. if b then Err (Clash d.name None) else of_type d.name (written_type ks d.type_of) (predicates_found ks (us ++ d.name ∷ []) ys)) n
              ∙ ap (λ z. of_type d.name z (predicates_found ks (us ++ d.name ∷ []) ys)) w ∙ g

          by_name : (b : Bool) → list_any (bytes_eq d.name) us ≡ b → predicates_found ks us (d ∷ ys) ≡ Err r
          by_name true n =
              ap (λ b. if b then Err (Clash d.name None) else of_type d.name (written_type ks d.type_of) (predicates_found ks (us ++ d.name ∷ []) ys)) n
              ∙ sym (ap (λ b. if b then Err (Clash d.name None) else of_type d.name (written_type ks d.type_of) (Ok [])) n) ∙ e
          by_name false n = by_type (written_type ks d.type_of) n refl (sym (ap (λ b. if b then Err (Clash d.name None) else of_type d.name (written_type ks d.type_of) (Ok [])) n) ∙ e)

pub none_put : (t : Table) → ArePut t t [] []
none_put t = record { found = refl; held = All-nil (HoldsConstant t); constants = sym (append-nil (constants t)) }

-- all predicates that were found have types of kinds
pub found_kinds : (ks us : List Name) (ds : List Defined) (ps : List Constant) → predicates_found ks us ds ≡ Ok ps → All (HasKinds ks) ds
found_kinds ks us [] ps e = All-nil (HasKinds ks)
found_kinds ks us (d ∷ ds) ps e =
    let f = first_found ks us d ds ps e in
    All-cons (HasKinds ks) d ds (f.type, f.written) (found_kinds ks (us ++ d.name ∷ []) ds f.rest f.found)
