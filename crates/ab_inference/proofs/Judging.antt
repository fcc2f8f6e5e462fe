-- From the solution to the verdict.
use Rattle.std.proofs.Common.{◌≡◌, ℕ, zero, suc, ◌+◌, ◌-◌, ◌<◌, ◌≤◌, List, [], ◌∷◌, ◌++◌, length, map, get_or, replicate, Bool, true, false, refl, sym, ◌∙◌, ap, subst, arith}
use Rattle.std.proofs.lemmas.List.{get_or-map, length-map, ext_get_or, map-append, length-replicate, get_or-replicate}
use Rattle.std.specs.Prelude.{bytes_eq, cond}
use Rattle.std.specs.Cmp.Lexicographic.{bytes_decides}
use Rattle.ab_term.specs.Types.{Ty, prop}
use Rattle.ab_store.specs.ab_types.specs.Entries.{Table}
use Rattle.ab_store.specs.ab_types.specs.Ids.{type_of}
use Rattle.ab_store.specs.ab_types.specs.declared.ids.TypeId.{TypeId}
use Rattle.ab_meaning.specs.Types.{PropFree}
use Rattle.ab_meaning.specs.ResolvedNames.{Name, Resolved, places_of}
use Rattle.ab_meaning.specs.Readings.{Raw, Making, Reads, reads_bound, reads_known, reads_free, reads_apply, reads_behind, reads_abs, reads_equal, reads_bind}
use Rattle.ab_meaning.specs.ReadingCounts.{Reading, IsTheReading, HasNoReading, IsFirstOpen}
use Rattle.ab_meaning.proofs.Members.{one_term}
use Rattle.ab_inference.specs.declared.shape.Shape.{Shape}
use Rattle.ab_inference.specs.declared.shape.Shape.TheVariants.{Open}
use Rattle.ab_inference.specs.declared.assignments.Settled.{Settled}
use Rattle.ab_inference.specs.declared.work.Wanted.TheVariants.{Is}
use Rattle.ab_inference.specs.Solutions.{Assignment, Fits, Solves, HasNoSolution}
use Rattle.ab_inference.specs.Work.{Meeting, Part}
use Rattle.ab_inference.specs.Assignments.{Tells, Solved}
use Rattle.ab_inference.specs.declared.op.Mark as declared
use Rattle.ab_inference.specs.Sketches.{Sketch, bound, known, free, apply, behind, abs, equal, bind, erase, count, Fit, Typed, given, term_of, AreFree, marks_of, variable_of, mark_place}
use Rattle.ab_inference.specs.Inferences.{Inferring, HasNoTyping}
use Rattle.ab_inference.specs.Verdicts.{mark_of, marks_in, AreApart, no_mark, variable_found, type_found, IsOpenAt, HasPropAt, IsFirstOpenMark, types_found}
use Rattle.ab_inference.proofs.Readings.{sound, complete, Comes, given_along, term_along}

free_both : (As Bs : List Ty) → AreFree As → AreFree Bs → AreFree (As ++ Bs)
free_both [] Bs f g = g
free_both (A ∷ As) Bs f g = (f.0, free_both As Bs f.1 g)

reads_prop_free : {made : Making} {types : Name → Ty} {G : List Ty} {e : Resolved} {t : Raw} {A : Ty} {As : List Ty} → Reads made types G e t A As → AreFree As
reads_prop_free (reads_bound h) = tt
reads_prop_free reads_known = tt
reads_prop_free (reads_free f) = (f, tt)
reads_prop_free (reads_apply {As = As} {Bs = Bs} d h) = free_both As Bs (reads_prop_free d) (reads_prop_free h)
reads_prop_free (reads_behind {As = As} {Bs = Bs} d h) = free_both As Bs (reads_prop_free d) (reads_prop_free h)
reads_prop_free (reads_abs f d) = (f, reads_prop_free d)
reads_prop_free (reads_equal {As = As} {Bs = Bs} d h) = free_both As Bs (reads_prop_free d) (reads_prop_free h)
reads_prop_free (reads_bind f k d) = (f, reads_prop_free d)

free_at : (As : List Ty) (k : ℕ) → k < length As → AreFree As → PropFree (get_or As k prop)
free_at [] k l f = absurd (omega arith)
free_at (A ∷ As) zero l f = f.0
free_at (A ∷ As) (suc k) l f = free_at As k (omega arith) f.1

free_all : (As : List Ty) → ((k : ℕ) → k < length As → PropFree (get_or As k prop)) → AreFree As
free_all [] h = tt
free_all (A ∷ As) h = (h zero (omega arith), free_all As (λ k l. h (suc k) (omega arith)))

-- the types and the places of an expression, by its marks
pub given_marks : (base : ℕ) (v : Assignment) (k : Sketch) → given base v k ≡ map (λ m. v (variable_of base m)) (marks_of k)
given_marks base v (bound i n) = refl
given_marks base v (known h A) = refl
given_marks base v (free x j p) = refl
given_marks base v (apply e f) = ap (λ As. As ++ given base v f) (given_marks base v e) ∙ (ap (λ As. map (λ m. v (variable_of base m)) (marks_of e) ++ As) (given_marks base v f) ∙ sym (map-append (λ m. v (variable_of base m)) (marks_of e) (marks_of f)))
given_marks base v (behind e f) = ap (λ As. As ++ given base v f) (given_marks base v e) ∙ (ap (λ As. map (λ m. v (variable_of base m)) (marks_of e) ++ As) (given_marks base v f) ∙ sym (map-append (λ m. v (variable_of base m)) (marks_of e) (marks_of f)))
given_marks base v (abs x n p e) = ap (λ As. v n ∷ As) (given_marks base v e)
given_marks base v (equal n e f) = ap (λ As. As ++ given base v f) (given_marks base v e) ∙ (ap (λ As. map (λ m. v (variable_of base m)) (marks_of e) ++ As) (given_marks base v f) ∙ sym (map-append (λ m. v (variable_of base m)) (marks_of e) (marks_of f)))
given_marks base v (bind q x n p w e) = ap (λ As. v n ∷ As) (given_marks base v e)

pub place_marks : (k : Sketch) → places_of (erase k) ≡ map mark_place (marks_of k)
place_marks (bound i n) = refl
place_marks (known h A) = refl
place_marks (free x j p) = refl
place_marks (apply e f) = ap (λ ps. ps ++ places_of (erase f)) (place_marks e) ∙ (ap (λ ps. map mark_place (marks_of e) ++ ps) (place_marks f) ∙ sym (map-append mark_place (marks_of e) (marks_of f)))
place_marks (behind e f) = ap (λ ps. ps ++ places_of (erase f)) (place_marks e) ∙ (ap (λ ps. map mark_place (marks_of e) ++ ps) (place_marks f) ∙ sym (map-append mark_place (marks_of e) (marks_of f)))
place_marks (abs x n p e) = ap (λ ps. p ∷ ps) (place_marks e)
place_marks (equal n e f) = ap (λ ps. ps ++ places_of (erase f)) (place_marks e) ∙ (ap (λ ps. map mark_place (marks_of e) ++ ps) (place_marks f) ∙ sym (map-append mark_place (marks_of e) (marks_of f)))
place_marks (bind q x n p w e) = ap (λ ps. p ∷ ps) (place_marks e)

-- the number of a name among names
abbrev pub number_in : List Name → Name → ℕ
number_in [] x = 0
number_in (y ∷ ys) x = cond (bytes_eq y x) 0 (suc (number_in ys x))

numbered : (ys : List Name) (j : ℕ) → j < length ys → (number_in ys (get_or ys j []) < length ys) × (get_or ys (number_in ys (get_or ys j [])) [] ≡ get_or ys j [])
numbered [] j l = absurd (omega arith)
numbered (y ∷ ys) zero l = rw ((bytes_decides y y).1 refl) (omega arith, refl)
numbered (y ∷ ys) (suc j) l = go (bytes_eq y (get_or ys j [])) refl (numbered ys j (omega arith))
  where
    go : (b : Bool) → bytes_eq y (get_or ys j []) ≡ b → (number_in ys (get_or ys j []) < length ys) × (get_or ys (number_in ys (get_or ys j [])) [] ≡ get_or ys j [])
        → (cond b 0 (suc (number_in ys (get_or ys j []))) < suc (length ys)) × (get_or (y ∷ ys) (cond b 0 (suc (number_in ys (get_or ys j [])))) [] ≡ get_or ys j [])
    go true e h = (omega arith, (bytes_decides y (get_or ys j [])).0 e)
    go false e h = (omega (arith, h.0), h.1)

pub own_number : (names : List Name) → AreApart names → (j : ℕ) → j < length names → number_in names (get_or names j []) ≡ j
own_number names apart j l = let h = numbered names j l in apart (number_in names (get_or names j [])) j h.0 l h.1

pub all_open : (types : Table) (v : Assignment) (n : ℕ) → Solves types v (replicate n Open)
all_open types v n = record { at = λ i l. subst (Fits types v (v i)) (sym (get_or-replicate n i Open Open (omega (arith, length-replicate n Open)))) tt }

module _ (types : Table) (made : Making) (names : List Name) (k : Sketch) (A : Ty) (base : ℕ) (base_is : base ≡ count k) (apart : AreApart names) (fit : Fit names [] 0 k) where
  abbrev first : List Shape
  first = replicate (base + length names) Open

  first_length : length first ≡ base + length names
  first_length = length-replicate (base + length names) Open

  abbrev types_under : Assignment → Name → Ty
  types_under v x = v (base + number_in names x)

  -- a solution that gives the type gives a reading
  abbrev pub to_reading : (v : Assignment) → Typed base v k A → AreFree (given base v k) → Reading made (erase k) A
  to_reading v t f = record {
    term = term_of base v made k;
    given = given base v k;
    types = types_under v;
    reads = sound made base names v (types_under v) (λ j l. ap (λ i. v (base + i)) (own_number names apart j l)) k [] 0 A fit t f;
  }

  abbrev start : (Name → Ty) → Assignment
  start given i = given (get_or names (i - base) [])

  started : (given : Name → Ty) (j : ℕ) → j < length names → start given (base + j) ≡ given (get_or names j [])
  started given j l = let e : (base + j) - base ≡ j = omega arith in ap (λ i. given (get_or names i [])) e

  from_start : (r : Reading made (erase k) A) → Comes made base names 0 (start r.types) k A r.given
  from_start r = complete made base names r.types k [] 0 (start r.types) r.term A r.given fit (λ i m e. absurd (cc)) (omega (arith, base_is)) (started r.types) r.reads

  pub no_typing : HasNoTyping types base first (k ∷ []) → HasNoReading made (erase k) A
  no_typing none r = let x = from_start r in none x.w (all_open types x.w (base + length names)) (A ∷ []) (x.typed, tt)

  module _ (s : List Shape) (root : ℕ) (inf : Inferring types base first s (k ∷ []) (root ∷ [])) where
    head_same : {x y : Ty} {xs ys : List Ty} → x ∷ xs ≡ y ∷ ys → x ≡ y
    head_same e = cc

    with_root : (r : Reading made (erase k) A) → (w : Assignment) × (Solves types w s) × (w root ≡ A) × (given base w k ≡ r.given)
    with_root r =
        let x = from_start r in
        let y = inf.on x.w (all_open types x.w (base + length names)) (A ∷ []) (x.typed, tt) in (
          y.w,
          y.solves,
          head_same y.are,
          given_along made base names x.w y.w k [] 0 fit (record { below = λ i l. y.agrees i (omega (arith, first_length, base_is)); frees_same = λ j l. y.agrees (base + j) (omega (arith, first_length)) }) ∙ x.types_are,
        )

    module _ (id : TypeId) (id_is : type_of types id ≡ A) where
      pub no_root : Part types s (Is root id) → HasNoReading made (erase k) A
      no_root none r = let h = with_root r in none h.0 h.1 (h.2 ∙ sym id_is)

      module _ (t : List Shape) (met : Meeting types s t (Is root id)) where
        from_reading : (r : Reading made (erase k) A) → (w : Assignment) × (Solves types w t) × (given base w k ≡ r.given)
        from_reading r = let h = with_root r in (h.0, met.on h.0 h.1 (h.2 ∙ sym id_is), h.3)

        typed_at : (v : Assignment) → Solves types v t → Typed base v k A
        typed_at v h = subst (Typed base v k) (met.equal v h ∙ id_is) (inf.sound v (met.back v h)).0

        pub no_solution : HasNoSolution types t → HasNoReading made (erase k) A
        no_solution none r = let h = from_reading r in none h.0 h.1

        module _ (new : Table) (found : List Settled) (sol : Solved types new t found) (marks : List declared.Mark) (marks_are : marks_in marks ≡ marks_of k)
            (within : (i : ℕ) → i < length marks → variable_found base marks i < length t) where
          abbrev var : ℕ → ℕ
          var i = variable_found base marks i

          tells : (i : ℕ) → i < length marks → Tells types t (var i) (IsOpenAt base found marks i) (sol.p (var i)) (sol.q (var i))
          tells i l = sol.tells (var i) (within i l)

          given_length : (v : Assignment) → length (given base v k) ≡ length marks
          given_length v = ap length (given_marks base v k ∙ ap (map (λ m. v (variable_of base m))) (sym marks_are)) ∙ (length-map (marks_in marks) (λ m. v (variable_of base m)) ∙ length-map marks mark_of)

          given_at : (v : Assignment) (i : ℕ) → i < length marks → get_or (given base v k) i prop ≡ v (var i)
          given_at v i l =
              let m : i < length (marks_in marks) = omega (arith, length-map marks mark_of) in
              ap (λ As. get_or As i prop) (given_marks base v k ∙ ap (map (λ m. v (variable_of base m))) (sym marks_are))
              ∙ (get_or-map (λ m. v (variable_of base m)) (marks_in marks) i (mark_of no_mark) prop m ∙ ap (λ m. v (variable_of base m)) (get_or-map mark_of marks i no_mark (mark_of no_mark) l))

          pub some_prop : HasPropAt new base found marks → HasNoReading made (erase k) A
          some_prop h r =
              let x = from_reading r in
              let i = h.number in
              let l : i < length r.given = omega (arith, h.within, given_length x.0, ap length x.2) in
              let f : PropFree (x.0 (var i)) = subst PropFree (ap (λ As. get_or As i prop) (sym x.2) ∙ given_at x.0 i h.within) (free_at r.given i l (reads_prop_free r.reads)) in
              h.has (subst PropFree (sym (sol.p_is (var i) (within i h.within))) ((tells i h.within).needs x.0 x.1 f).0)

          module _ (no_prop : (i : ℕ) → i < length marks → PropFree (type_found new base found marks i)) where
            p_free : (i : ℕ) → i < length marks → PropFree (sol.p (var i))
            p_free i l = subst PropFree (sol.p_is (var i) (within i l)) (no_prop i l)

            all_free : (v : Assignment) → ((i : ℕ) → i < length marks → PropFree (v (var i))) → AreFree (given base v k)
            all_free v h = free_all (given base v k) (λ i l. let m : i < length marks = omega (arith, given_length v) in subst PropFree (sym (given_at v i m)) (h i m))

            abbrev one : Reading made (erase k) A
            one = to_reading sol.p (typed_at sol.p sol.p_solves) (all_free sol.p p_free)

            abbrev other : Reading made (erase k) A
            other = to_reading sol.q (typed_at sol.q sol.q_solves) (all_free sol.q (λ i l. ((tells i l).needs sol.p sol.p_solves (p_free i l)).1))

            closed_same : (i : ℕ) → i < length marks → IsOpenAt base found marks i ≡ false → (r : Reading made (erase k) A) → get_or r.given i prop ≡ sol.p (var i)
            closed_same i l closed r =
                let x = from_reading r in
                ap (λ As. get_or As i prop) (sym x.2) ∙ (given_at x.0 i l ∙ (tells i l).forced x.0 x.1 ((tells i l).closed closed))

            pub some_open : (place : ℕ) → IsFirstOpenMark base found marks place → IsFirstOpen made (erase k) A place
            some_open place f =
                let i = f.number in
                let m : i < length (marks_in marks) = omega (arith, f.within, length-map marks mark_of) in
                let places : places_of (erase k) ≡ map mark_place (marks_in marks) = place_marks k ∙ ap (map mark_place) (sym marks_are) in
                record {
                  number = i;
                  within = omega (arith, m, ap length places, length-map (marks_in marks) mark_place);
                  place_is = f.place_is ∙ (ap mark_place (sym (get_or-map mark_of marks i no_mark (mark_of no_mark) f.within)) ∙ (sym (get_or-map mark_place (marks_in marks) i (mark_of no_mark) 0 m) ∙ ap (λ ps. get_or ps i 0) (sym places)));
                  differ = record {
                    one = one;
                    other = other;
                    apart = λ same. (tells i f.within).opened f.open_there (sym (given_at sol.p i f.within) ∙ (same ∙ given_at sol.q i f.within));
                  };
                  first = λ j l d.
                      let b : j < length marks = omega (arith, f.within) in
                      d.apart (closed_same j b (f.closed_before j l) d.one ∙ sym (closed_same j b (f.closed_before j l) d.other));
                }

            module _ (closed : (i : ℕ) → i < length marks → IsOpenAt base found marks i ≡ false) where
              same_given : (r : Reading made (erase k) A) → r.given ≡ given base sol.p k
              same_given r =
                  let x = from_reading r in
                  let n : length r.given ≡ length marks = ap length (sym x.2) ∙ given_length x.0 in
                  ext_get_or prop r.given (given base sol.p k) (n ∙ sym (given_length sol.p)) (λ i l. let m : i < length marks = omega (arith, n) in closed_same i m (closed i m) r ∙ sym (given_at sol.p i m))

              pub the_reading : IsTheReading made (erase k) A (term_of base sol.p made k)
              the_reading = record {
                reading = one;
                is = refl;
                alone = λ r. (one_term r.reads one.reads refl (same_given r)).0;
              }

              pub the_reading_found : length first ≤ length t → IsTheReading made (erase k) A (term_of base (types_found new found) made k)
              the_reading_found longer = subst (IsTheReading made (erase k) A)
                  (sym (term_along made base names sol.p (types_found new found) k [] 0 fit (record {
                    below = λ i l. sol.p_is i (omega (arith, first_length, base_is));
                    frees_same = λ j l. sol.p_is (base + j) (omega (arith, first_length));
                  })))
                  the_reading
