-- What meeting one equation does to the solutions.
use Rattle.std.proofs.Common.{◌≡◌, ◌≢◌, ℕ, ◌+◌, ◌*◌, ◌<◌, ◌≤◌, List, [], ◌∷◌, ◌++◌, length, set, get_or, true, false, refl, sym, ◌∙◌, ap, subst, arith}
use Rattle.std.specs.Prelude.{cond}
use Rattle.std.proofs.lemmas.List.{length-set, get_or-set_same, get_or-set_other, append-nil}
use Rattle.ab_term.specs.Types.{Ty, kind, arrow}
use Rattle.ab_store.specs.ab_types.specs.Entries.{Table}
use Rattle.ab_store.specs.ab_types.specs.Ids.{HoldsType, type_of}
use Rattle.ab_store.specs.ab_types.specs.declared.ids.TypeId.{TypeId}
use Rattle.ab_inference.specs.declared.shape.Shape.{Shape}
use Rattle.ab_inference.specs.declared.shape.Shape.TheVariants.{Open, Link, Known, Arrow}
use Rattle.ab_inference.specs.declared.work.Wanted.{Wanted}
use Rattle.ab_inference.specs.declared.work.Wanted.TheVariants.{Equal, Is}
use Rattle.ab_inference.specs.Solutions.{Assignment, Fits, Solves, Names, AreFormed, AreHeld, is_loose, loose, IsRoot, Same, Leads}
use Rattle.ab_inference.specs.Work.{WithinOne, Within, MeetsOne, Meets, Turns, Fails, Moves, Meeting, Part}
use Rattle.ab_inference.proofs.Joining.{set_formed, set_held, loose_set, on_set, at_here, at_other, off_set, arrow_names, known_held}

arrow_from : {A B C D : Ty} → arrow A B ≡ arrow C D → A ≡ C
arrow_from e = cc

arrow_to : {A B C D : Ty} → arrow A B ≡ arrow C D → B ≡ D
arrow_to e = cc

both : {A B C D : Ty} → A ≡ C → B ≡ D → arrow A B ≡ arrow C D
both e f = cc

pub no_arrow : {A B : Ty} {k : List ℕ} → arrow A B ≡ kind k → ⊥
no_arrow e = cc

nothing_more : {X : Type 0} (xs : List X) → xs ≡ xs ++ []
nothing_more xs = sym (append-nil xs)

module _ (types : Table) (s : List Shape) (f : AreFormed s) (held : AreHeld types s) where
  -- a variable without a link becomes known
  module _ (r : ℕ) (r_in : r < length s) (ty : TypeId) (ty_in : HoldsType types ty) where
    pub known_formed : AreFormed (set s r (Known ty))
    known_formed = set_formed s r (Known ty) r_in f tt

    pub known_turns : get_or s r Open ≡ Open → (ws : List Wanted) → Moves types s (Is r ty) (set s r (Known ty)) ws ws
    known_turns is ws = record {
      formed = known_formed;
      held = set_held types s r (Known ty) r_in held ty_in;
      more = [];
      later_is = nothing_more ws;
      within = tt;
      turns = record {
        back = λ v h m. (off_set types v s r (Known ty) r_in h (subst (Fits types v (v r)) (sym is) tt), (at_here types v s r (Known ty) r_in h, tt));
        on = λ v h m. (on_set types v s r (Known ty) r_in h m.0, tt);
      };
      falls = let e = loose_set s r (Known ty) r_in in
          let g : loose (set s r (Known ty)) + 1 ≡ loose s + 0 = ap (λ c. loose (set s r (Known ty)) + cond (is_loose c) 1 0) (sym is) ∙ e in omega arith;
    }

    pub stays_known : get_or s r Open ≡ Known ty → (ws : List Wanted) → Moves types s (Is r ty) s ws ws
    stays_known is ws = record {
      formed = f;
      held = held;
      more = [];
      later_is = nothing_more ws;
      within = tt;
      turns = record {
        back = λ v h m. (h, (subst (Fits types v (v r)) is (h.at r r_in), tt));
        on = λ v h m. (h, tt);
      };
      falls = omega arith;
    }

    pub other_known : (known : TypeId) → get_or s r Open ≡ Known known → (type_of types known ≡ type_of types ty → known ≡ ty) → known ≢ ty → Fails types s (Is r ty ∷ [])
    other_known known is unique n v h m =
        let e : v r ≡ type_of types known = subst (Fits types v (v r)) is (h.at r r_in) in
        n (unique (sym e ∙ m.0))

    module _ (a b : ℕ) (is : get_or s r Open ≡ Arrow a b) where
      pub no_kind : (k : List ℕ) → type_of types ty ≡ kind k → Fails types s (Is r ty ∷ [])
      no_kind k reads v h m =
          let e : v r ≡ arrow (v a) (v b) = subst (Fits types v (v r)) is (h.at r r_in) in
          no_arrow (sym e ∙ (m.0 ∙ reads))

      pub parts_turn : (c d : TypeId) → type_of types ty ≡ arrow (type_of types c) (type_of types d) → HoldsType types c → HoldsType types d
          → (ws later : List Wanted) → later ≡ (ws ++ Is a c ∷ []) ++ Is b d ∷ [] → (ws ++ Is a c ∷ []) ++ Is b d ∷ [] ≡ ws ++ (Is a c ∷ Is b d ∷ []) → Moves types s (Is r ty) (set s r (Known ty)) ws later
      parts_turn c d reads c_in d_in ws later later_is assoc = record {
        formed = known_formed;
        held = set_held types s r (Known ty) r_in held ty_in;
        more = Is a c ∷ Is b d ∷ [];
        later_is = later_is ∙ assoc;
        within = let n = arrow_names s r a b f r_in is in ((omega (arith, length-set s r (Known ty), n.0), c_in), ((omega (arith, length-set s r (Known ty), n.1), d_in), tt));
        turns = record {
          back = λ v h m.
              let e : v r ≡ type_of types ty = at_here types v s r (Known ty) r_in h in
              (off_set types v s r (Known ty) r_in h (subst (Fits types v (v r)) (sym is) (e ∙ (reads ∙ sym (both m.0 m.1.0)))), (e, tt));
          on = λ v h m.
              let e : v r ≡ arrow (v a) (v b) = subst (Fits types v (v r)) is (h.at r r_in) in
              let g : arrow (v a) (v b) ≡ arrow (type_of types c) (type_of types d) = sym e ∙ (m.0 ∙ reads) in
              (on_set types v s r (Known ty) r_in h m.0, (arrow_from g, (arrow_to g, tt)));
        };
        falls = let e = loose_set s r (Known ty) r_in in
            let g : loose (set s r (Known ty)) + 1 ≡ loose s + 0 = ap (λ c. loose (set s r (Known ty)) + cond (is_loose c) 1 0) (sym is) ∙ e in omega arith;
      }

  -- a later variable becomes the same as an earlier one
  module _ (low high : ℕ) (order : low < high) (within : high < length s) where
    link_back : (v : Assignment) → Solves types v (set s high (Link low)) → (Fits types v (v low) (get_or s low Open) → Fits types v (v low) (get_or s high Open)) → Solves types v s
    link_back v h into =
        let same : v high ≡ v low = at_here types v s high (Link low) within h in
        let apart : low ≢ high = omega arith in
        let below : low < length s = omega arith in
        off_set types v s high (Link low) within h (subst (λ A. Fits types v A (get_or s high Open)) (sym same) (into (at_other types v s high (Link low) within low below apart h)))

    link_on : (v : Assignment) → Solves types v s → v low ≡ v high → Solves types v (set s high (Link low))
    link_on v h e = on_set types v s high (Link low) within h (sym e)

    link_formed : AreFormed (set s high (Link low))
    link_formed = set_formed s high (Link low) within f (order, omega arith)

    link_falls : is_loose (get_or s high Open) ≡ true → loose (set s high (Link low)) + 1 ≡ loose s
    link_falls is =
        let e = loose_set s high (Link low) within in
        let g : loose (set s high (Link low)) + 1 ≡ loose s + 0 = ap (λ b. loose (set s high (Link low)) + cond b 1 0) (sym is) ∙ e in
        omega arith

    pub arrows_join : (a b c d : ℕ) → get_or s low Open ≡ Arrow a b → get_or s high Open ≡ Arrow c d → is_loose (get_or s high Open) ≡ true
        → (ws later : List Wanted) → later ≡ (ws ++ Equal a c ∷ []) ++ Equal b d ∷ [] → (ws ++ Equal a c ∷ []) ++ Equal b d ∷ [] ≡ ws ++ (Equal a c ∷ Equal b d ∷ []) → Moves types s (Equal low high) (set s high (Link low)) ws later
    arrows_join a b c d low_is high_is is_loose_high ws later later_is assoc = record {
      formed = link_formed;
      held = set_held types s high (Link low) within held tt;
      more = Equal a c ∷ Equal b d ∷ [];
      later_is = later_is ∙ assoc;
      within = let n = arrow_names s low a b f (omega arith) low_is in let m = arrow_names s high c d f within high_is in
          ((omega (arith, length-set s high (Link low), n.0), omega (arith, length-set s high (Link low), m.0)), ((omega (arith, length-set s high (Link low), n.1), omega (arith, length-set s high (Link low), m.1)), tt));
      turns = record {
        back = λ v h m. (link_back v h (λ g. subst (Fits types v (v low)) (sym high_is) (let e : v low ≡ arrow (v a) (v b) = subst (Fits types v (v low)) low_is g in e ∙ both m.0 m.1.0)), (sym (at_here types v s high (Link low) within h), tt));
        on = λ v h m.
            let one : v low ≡ arrow (v a) (v b) = subst (Fits types v (v low)) low_is (h.at low (omega arith)) in
            let two : v high ≡ arrow (v c) (v d) = subst (Fits types v (v high)) high_is (h.at high within) in
            let g = sym one ∙ (m.0 ∙ two) in
            (link_on v h m.0, (arrow_from g, (arrow_to g, tt)));
      };
      falls = let g = link_falls is_loose_high in omega arith;
    }

    -- nothing is known of the later one
    pub open_joins : get_or s high Open ≡ Open → (ws : List Wanted) → Moves types s (Equal low high) (set s high (Link low)) ws ws
    open_joins is ws = record {
      formed = link_formed;
      held = set_held types s high (Link low) within held tt;
      more = [];
      later_is = nothing_more ws;
      within = tt;
      turns = record {
        back = λ v h m. (link_back v h (λ g. subst (Fits types v (v low)) (sym is) tt), (sym (at_here types v s high (Link low) within h), tt));
        on = λ v h m. (link_on v h m.0, tt);
      };
      falls = let g = link_falls (ap is_loose is) in omega arith;
    }

  -- where nothing is known of the earlier one it takes the shape of the later
  module _ (low high : ℕ) (order : low < high) (within : high < length s) (none : get_or s low Open ≡ Open) where
    abbrev hs : Shape
    hs = get_or s high Open

    abbrev s1 : List Shape
    s1 = set s low hs

    low_in : low < length s
    low_in = omega arith

    high_in : high < length s1
    high_in = omega (arith, length-set s low hs)

    names_low : Names (length s) low hs → AreFormed (set s1 high (Link low))
    names_low n = set_formed s1 high (Link low) high_in (set_formed s low hs low_in f n) (order, omega (arith, high_in))

    back_taken : (v : Assignment) → Solves types v (set s1 high (Link low)) → Solves types v s
    back_taken v h =
        let apart : low ≢ high = omega arith in
        let apart2 : high ≢ low = omega arith in
        let same : v high ≡ v low = at_here types v s1 high (Link low) high_in h in
        let low_in1 : low < length s1 = omega (arith, high_in) in
        let here : Fits types v (v low) hs = subst (Fits types v (v low)) (get_or-set_same s low hs Open low_in) (at_other types v s1 high (Link low) high_in low low_in1 apart h) in
        let there : Fits types v (v high) (get_or s1 high Open) = subst (Fits types v (v high)) (sym (get_or-set_other s low high hs Open apart2)) (subst (λ A. Fits types v A hs) (sym same) here) in
        off_set types v s low hs low_in (off_set types v s1 high (Link low) high_in h there) (subst (Fits types v (v low)) (sym none) tt)

    pub taken : Names (length s) low hs → is_loose hs ≡ true → (ws : List Wanted) → Moves types s (Equal low high) (set s1 high (Link low)) ws ws
    taken n is ws = record {
      formed = names_low n;
      held = set_held types s1 high (Link low) high_in (set_held types s low hs low_in held (held.held high)) tt;
      more = [];
      later_is = nothing_more ws;
      within = tt;
      turns = record {
        back = λ v h m. (back_taken v h, (sym (at_here types v s1 high (Link low) high_in h), tt));
        on = λ v h m. (on_set types v s1 high (Link low) high_in (on_set types v s low hs low_in h (subst (λ A. Fits types v A hs) (sym m.0) (h.at high within))) (sym m.0), tt);
      };
      falls =
          let apart2 : high ≢ low = omega arith in
          let one = loose_set s low hs low_in in
          let two = loose_set s1 high (Link low) high_in in
          let same : get_or s1 high Open ≡ hs = get_or-set_other s low high hs Open apart2 in
          let one1 : loose s1 + 1 ≡ loose s + 1 = ap (λ c. loose s1 + cond (is_loose c) 1 0) (sym none) ∙ (one ∙ ap (λ b. loose s + cond b 1 0) is) in
          let two1 : loose (set s1 high (Link low)) + 1 ≡ loose s1 + 0 = ap (λ b. loose (set s1 high (Link low)) + cond b 1 0) (sym (ap is_loose same ∙ is)) ∙ two in
          omega arith;
    }

  -- of two equal variables one is known
  module _ (ty : TypeId) (a b : ℕ) (a_in : a < length s) (is : get_or s a Open ≡ Known ty) (new : List Shape) (ws later : List Wanted) where
    known_is : (v : Assignment) → Solves types v s → v a ≡ type_of types ty
    known_is v h = subst (Fits types v (v a)) is (h.at a a_in)

    pub left_known : Moves types s (Is b ty) new ws later → Moves types s (Equal a b) new ws later
    left_known m = record {
      formed = m.formed;
      held = m.held;
      more = m.more;
      later_is = m.later_is;
      within = m.within;
      falls = m.falls;
      turns = record {
        back = λ v h k. let p = m.turns.back v h k in (p.0, (known_is v p.0 ∙ sym p.1.0, tt));
        on = λ v h k. m.turns.on v h (sym k.0 ∙ known_is v h, tt);
      };
    }

    pub right_known : Moves types s (Is b ty) new ws later → Moves types s (Equal b a) new ws later
    right_known m = record {
      formed = m.formed;
      held = m.held;
      more = m.more;
      later_is = m.later_is;
      within = m.within;
      falls = m.falls;
      turns = record {
        back = λ v h k. let p = m.turns.back v h k in (p.0, (p.1.0 ∙ sym (known_is v p.0), tt));
        on = λ v h k. m.turns.on v h (k.0 ∙ known_is v h, tt);
      };
    }

    pub left_fails : Fails types s (Is b ty ∷ []) → Fails types s (Equal a b ∷ [])
    left_fails n v h k = n v h (sym k.0 ∙ known_is v h, tt)

    pub right_fails : Fails types s (Is b ty ∷ []) → Fails types s (Equal b a ∷ [])
    right_fails n v h k = n v h (k.0 ∙ known_is v h, tt)

-- from the ends of links to the variables
module _ (types : Table) (s0 s1 s2 : List Shape) (one : Same types s0 s1) (two : Same types s1 s2) (a b r t : ℕ)
    (leads1 : Leads types s1 a r) (leads2 : Leads types s2 b t) (as_many : loose s2 ≡ loose s0) where
  to_ends : (v : Assignment) → Solves types v s0 → v a ≡ v b → (Solves types v s2) × (v r ≡ v t)
  to_ends v h e = let k = one.on v h in let l = two.on v k in (l, sym (leads1 v k) ∙ (e ∙ leads2 v l))

  from_ends : (v : Assignment) → Solves types v s2 → v r ≡ v t → (Solves types v s0) × (v a ≡ v b)
  from_ends v h e = let k = two.back v h in (one.back v k, leads1 v k ∙ (e ∙ sym (leads2 v h)))

  pub ends_move : (new : List Shape) (ws later : List Wanted) → Moves types s2 (Equal r t) new ws later → Moves types s0 (Equal a b) new ws later
  ends_move new ws later m = record {
    formed = m.formed;
    held = m.held;
    more = m.more;
    later_is = m.later_is;
    within = m.within;
    turns = record {
      back = λ v h k. let p = m.turns.back v h k in let q = from_ends v p.0 p.1.0 in (q.0, (q.1, tt));
      on = λ v h k. let q = to_ends v h k.0 in m.turns.on v q.0 (q.1, tt);
    };
    falls = omega (arith, m.falls);
  }

  pub ends_move_swapped : (new : List Shape) (ws later : List Wanted) → Moves types s2 (Equal t r) new ws later → Moves types s0 (Equal a b) new ws later
  ends_move_swapped new ws later m = record {
    formed = m.formed;
    held = m.held;
    more = m.more;
    later_is = m.later_is;
    within = m.within;
    turns = record {
      back = λ v h k. let p = m.turns.back v h k in let q = from_ends v p.0 (sym p.1.0) in (q.0, (q.1, tt));
      on = λ v h k. let q = to_ends v h k.0 in m.turns.on v q.0 (sym q.1, tt);
    };
    falls = omega (arith, m.falls);
  }

  pub ends_fail : Fails types s2 (Equal r t ∷ []) → Fails types s0 (Equal a b ∷ [])
  ends_fail n v h k = let q = to_ends v h k.0 in n v q.0 (q.1, tt)

  pub ends_fail_swapped : Fails types s2 (Equal t r ∷ []) → Fails types s0 (Equal a b ∷ [])
  ends_fail_swapped n v h k = let q = to_ends v h k.0 in n v q.0 (sym q.1, tt)

  pub one_end : AreFormed s2 → AreHeld types s2 → r ≡ t → (ws : List Wanted) → Moves types s0 (Equal a b) s2 ws ws
  one_end f held e ws = record {
    formed = f;
    held = held;
    more = [];
    later_is = nothing_more ws;
    within = tt;
    turns = record {
      back = λ v h k. let q = from_ends v h (ap v e) in (q.0, (q.1, tt));
      on = λ v h k. ((to_ends v h k.0).0, tt);
    };
    falls = omega arith;
  }

module _ (types : Table) (s0 s1 : List Shape) (one : Same types s0 s1) (a r : ℕ) (ty : TypeId) (leads : Leads types s1 a r) (as_many : loose s1 ≡ loose s0) where
  pub end_moves : (new : List Shape) (ws later : List Wanted) → Moves types s1 (Is r ty) new ws later → Moves types s0 (Is a ty) new ws later
  end_moves new ws later m = record {
    formed = m.formed;
    held = m.held;
    more = m.more;
    later_is = m.later_is;
    within = m.within;
    turns = record {
      back = λ v h k. let p = m.turns.back v h k in (one.back v p.0, (leads v p.0 ∙ p.1.0, tt));
      on = λ v h k. let l = one.on v h in m.turns.on v l (sym (leads v l) ∙ k.0, tt);
    };
    falls = omega (arith, m.falls);
  }

  pub end_fails : Fails types s1 (Is r ty ∷ []) → Fails types s0 (Is a ty ∷ [])
  end_fails n v h k = let l = one.on v h in n v l (sym (leads v l) ∙ k.0, tt)

names_loose : (n i j : ℕ) (c : Shape) → is_loose c ≡ true → Names n i c → Names n j c
names_loose n i j Open e h = tt
names_loose n i j (Link k) e h = cc
names_loose n i j (Known k) e h = tt
names_loose n i j (Arrow a b) e h = h

-- a loose shape may stand anywhere
pub loose_names : (types : Table) (s : List Shape) → AreFormed s → (low high : ℕ) → high < length s → is_loose (get_or s high Open) ≡ true → Names (length s) low (get_or s high Open)
loose_names types s f low high l e = names_loose (length s) high low (get_or s high Open) e (f.names high l)
