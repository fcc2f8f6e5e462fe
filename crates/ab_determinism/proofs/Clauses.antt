-- A clause has one meaning, or none for one cause.
use Rattle.std.specs.Prelude.{None, Ok, Err, All, if◌then◌else◌}
use Rattle.std.proofs.Common.{◌≡◌, inl, inr, ℕ, suc, List, [], ◌∷◌, ◌++◌, Bool, true, false, get_or, refl, sym, ◌∙◌, ap, subst, arith}
use Rattle.std.proofs.lemmas.Bool.{cases_lt}
use Rattle.std.proofs.lemmas.List.Elements.{All-nil, All-cons, All-head, All-tail, All-append, All-push}
use Rattle.ab_term.specs.Types.{Ty, prop}
use Rattle.ab_term.specs.Terms.{Head, variable}
use Rattle.ab_term.specs.Typing.{Signature}
use Rattle.ab_term.specs.Beta.{atom, abstraction, application}
use Rattle.ab_grammar.specs.CommandTrees as written
use Rattle.ab_meaning.specs.ResolvedNames.{Name, Resolved}
use Rattle.ab_meaning.specs.Normal.{normal_form}
use Rattle.ab_meaning.specs.Readings.{Raw, Reads, reads_bound, reads_known, reads_free, reads_apply, reads_behind, reads_abs, reads_equal, reads_bind}
use Rattle.ab_meaning.specs.Types.{is_listed}
use Rattle.ab_inference.specs.declared.fault.InferFault.TheVariants.{Unknown, TypeClash, Untyped, Memory}
use Rattle.ab_infer.specs.Occurrences.{free_names, with_name, with_names}
use Rattle.ab_formulas.specs.Clauses.{Clause}
use Rattle.ab_states.specs.ab_specification.proofs.OneClause.{one_kept, one_not_several, one_place}
use Rattle.ab_states.specs.ab_specification.specs.ab_declare.specs.KeptClauses.{kept_clause}
use Rattle.ab_states.specs.ab_specification.specs.ab_declare.specs.ClauseReadings.{Parts, places_in, ClauseReading, HasOneReading, IsFirstOpen}
use Rattle.ab_states.specs.ab_specification.specs.ab_declare.specs.ClauseMeanings.{parts_found, body_type, variable_names, variable_from, variables_from, closes_body, numbered_names, IsKeptAs}
use Rattle.ab_states.specs.ab_specification.specs.ab_declare.specs.declared.refusal.Refusal.{Refusal}
use Rattle.ab_states.specs.ab_specification.specs.ab_declare.specs.declared.refusal.Refusal.TheVariants as refusal
use Rattle.ab_states.specs.ab_specification.specs.ab_declare.specs.Refusals.{here}
use Rattle.ab_states.specs.ab_specification.specs.ab_declare.specs.DefinitionCommands.{MeansKept, MeanKept, IsRead, IsUnread}

module _ (ks : List Name) (sg : Signature) where
  one_named : (c : written.Clause) (e f : Parts) → parts_found ks sg c ≡ Ok e → parts_found ks sg c ≡ Ok f → f ≡ e
  one_named c e f x y = let both : Ok f ≡ Ok e = sym y ∙ x in cc

  pub one_clause : (c : written.Clause) (k l : Clause) → MeansKept ks sg c k → MeansKept ks sg c l → k ≡ l
  one_clause c k l (e, x, a) (f, y, b) = one_kept sg 0 e prop (body_type prop c.body) k l a (subst (λ z. IsKeptAs sg 0 z prop (body_type prop c.body) l) (one_named c e f x y) b)

  pub same_clauses : (cs : List written.Clause) (ks' ls : List Clause) → MeanKept ks sg cs ks' → MeanKept ks sg cs ls → ks' ≡ ls
  same_clauses [] [] [] a b = refl
  same_clauses [] [] (l ∷ ls) a b = absurd b
  same_clauses [] (k ∷ ks') ls a b = absurd a
  same_clauses (c ∷ cs) [] ls a b = absurd a
  same_clauses (c ∷ cs) (k ∷ ks') [] a b = absurd b
  same_clauses (c ∷ cs) (k ∷ ks') (l ∷ ls) a b = ap (λ z. z ∷ ks') (one_clause c k l a.0 b.0) ∙ ap (λ zs. l ∷ zs) (same_clauses cs ks' ls a.1 b.1)

  pub all_read : (cs : List written.Clause) (ks' : List Clause) → MeanKept ks sg cs ks' → All (IsRead ks sg) cs
  all_read [] ks' a = All-nil (IsRead ks sg)
  all_read (c ∷ cs) [] a = absurd a
  all_read (c ∷ cs) (k ∷ ks') a = All-cons (IsRead ks sg) c cs (k, a.0) (all_read cs ks' a.1)

  -- IT IS READ, OR ISN'T, for one cause

  pub read_or_not : (c : written.Clause) (r : Refusal) → IsRead ks sg c → IsUnread ks sg c r → ⊥
  read_or_not c r (k, (e, found, h)) (Unknown x, m, is) = let bad : Err x ≡ Ok e = sym m ∙ found in cc
  read_or_not c r (k, (e, found, h)) (TypeClash p, (d, y, (none, at)), is) =
      none (subst (λ z. ClauseReading (numbered_names z) z prop (body_type prop c.body)) (one_named c d e y found) h.one.reading)
  read_or_not c r (k, (e, found, h)) (Untyped p, (d, y, several), is) =
      one_not_several 0 (variable_names d) d prop (body_type prop c.body) p (subst (λ z. HasOneReading (numbered_names z) z prop (body_type prop c.body)) (one_named c d e y found) h.one) several
  read_or_not c r (k, (e, found, h)) (Memory m, u, is) = is

  pub one_cause : (c : written.Clause) (r q : Refusal) → IsUnread ks sg c r → IsUnread ks sg c q → r ≡ q
  one_cause c r q (Unknown x, m, is) (Unknown y, n, too) =
      let both : Err x ≡ Err y = sym m ∙ n in
      let one : x ≡ y = cc in
      is ∙ ap (λ z. refusal.Unknown z None) one ∙ sym too
  one_cause c r q (Unknown x, m, is) (TypeClash p, (d, y, (none, at)), too) = let bad : Err x ≡ Ok d = sym m ∙ y in absurd (cc)
  one_cause c r q (Unknown x, m, is) (Untyped p, (d, y, several), too) = let bad : Err x ≡ Ok d = sym m ∙ y in absurd (cc)
  one_cause c r q (TypeClash p, (d, y, (none, at)), is) (Unknown x, n, too) = let bad : Err x ≡ Ok d = sym n ∙ y in absurd (cc)
  one_cause c r q (TypeClash p, (d, y, (none, at)), is) (TypeClash p2, (e, z, (none2, at2)), too) = is ∙ ap (λ n. refusal.TypeClash (here n)) (at ∙ sym at2) ∙ sym too
  one_cause c r q (TypeClash p, (d, y, (none, at)), is) (Untyped p2, (e, z, several), too) =
      absurd (none (subst (λ w. ClauseReading (numbered_names w) w prop (body_type prop c.body)) (one_named c d e y z) several.differ.one))
  one_cause c r q (Untyped p, (d, y, several), is) (Unknown x, n, too) = let bad : Err x ≡ Ok d = sym n ∙ y in absurd (cc)
  one_cause c r q (Untyped p, (d, y, several), is) (TypeClash p2, (e, z, (none, at)), too) =
      absurd (none (subst (λ w. ClauseReading (numbered_names w) w prop (body_type prop c.body)) (one_named c e d z y) several.differ.one))
  one_cause c r q (Untyped p, (d, y, a), is) (Untyped p2, (e, z, b), too) =
      is
      ∙ ap (λ n. refusal.Untyped (here n))
      (one_place 0 (variable_names d) d prop (body_type prop c.body) p p2 a (subst (λ w. IsFirstOpen (numbered_names w) w prop (body_type prop c.body) p2) (one_named c d e y z) b))
      ∙ sym too
  one_cause c r q (Memory m, u, is) b = absurd is
  one_cause c r q (Unknown x, m, is) (Memory n, u, too) = absurd too
  one_cause c r q (TypeClash p, m, is) (Memory n, u, too) = absurd too
  one_cause c r q (Untyped p, m, is) (Memory n, u, too) = absurd too
