-- By loads that begin alike files are read in one way, or they can't be read for one fault, and never both.
use Rattle.std.proofs.Common.{◌≡◌, ◌⊎◌, ◌+◌, ◌<◌, ℕ, List, [], ◌∷◌, ◌++◌, map, length, Contains, refl, ap, sym, ◌∙◌, subst, inl, inr, arith, append_assoc, append-nil, length-append}
use Rattle.std.proofs.lemmas.List.{append_cancel_left}
use Rattle.std.proofs.lemmas.List.Elements.{Contains-append_right}
use Rattle.ab_grammar.specs.declared.file.FileKind.{FileKind}
use Rattle.ab_grammar.specs.FileTrees.{Item}
use Rattle.ab_io.specs.Loads.{Answer, loaded}
use Rattle.ab_sigmod.specs.FileNames.{File, name_of}
use Rattle.ab_lex.specs.declared.token.Token.{Token as Lexed}
use Rattle.ab_sigmod.specs.FileTexts.{Begins, IsFaulty}
use Rattle.ab_sigmod.specs.FileLoads.{Load}
use Rattle.ab_sigmod.specs.FileOrder.{Read, Progress, WasRead, asked_by, Fault, text_fault, circular, limit, IsRefusal, is_missing, has_failed, is_too_long, GoesRound, IsNew, load_of, one_loaded, behind_all, AreRead, none, again, once, IsRead, is_read, AreFaulty, at_one, IsUnreadable, goes_round, is_one_more, isnt_loaded, in_its_text, at_a_place, files_of, beginning, IsSpecification, IsRefused}
use Rattle.ab_sigmod.proofs.OneText.{says_more, says_one, faulty_behind, says_or_faulty, faulty_one, begin_alike}
use Rattle.ab_sigmod.proofs.Appending.{asked_by_on}

-- Lists

-- the last of two lists that are the same
last_two : {X : Type 0} (xs ys : List X) (x y : X) → xs ++ x ∷ [] ≡ ys ++ y ∷ [] → (xs ≡ ys) × (x ≡ y)
last_two [] [] x y e = (refl, cc)
last_two [] (z ∷ ys) x y e = absurd (omega (arith, ap length e, length-append ys (y ∷ [])))
last_two (z ∷ xs) [] x y e = absurd (omega (arith, ap length e, length-append xs (x ∷ [])))
last_two (z ∷ xs) (w ∷ ys) x y e =
    let head : z ≡ w = cc in
    let tail : xs ++ x ∷ [] ≡ ys ++ y ∷ [] = cc in
    let rest = last_two xs ys x y tail in
    (ap (λ q. q ∷ xs) head ∙ ap (λ q. w ∷ q) rest.0, rest.1)

-- the last of some is the one that was found among them, and none stands behind that; or it stands behind that itself
abbrev Found : {X : Type 0} → List X → X → List X → X → List X → Type 0
Found {X} xs x ys y zs = ((xs ≡ ys) × (x ≡ y) × (zs ≡ [])) ⊎ ((ws : List X) × (xs ≡ ys ++ y ∷ ws) × (zs ≡ ws ++ x ∷ []))

found : {X : Type 0} (xs ys zs : List X) (x y : X) → xs ++ x ∷ [] ≡ ys ++ y ∷ zs → Found xs x ys y zs
found [] [] zs x y e = inl (refl, cc, cc)
found [] (z ∷ ys) zs x y e = absurd (omega (arith, ap length e, length-append ys (y ∷ zs)))
found (z ∷ xs) [] zs x y e =
    let head : z ≡ y = cc in
    let tail : xs ++ x ∷ [] ≡ zs = cc in
    inr (xs, ap (λ q. q ∷ xs) head, sym tail)
found (z ∷ xs) (w ∷ ys) zs x y e =
    let head : z ≡ w = cc in
    let tail : xs ++ x ∷ [] ≡ ys ++ y ∷ zs = cc in
    elim (found xs ys zs x y tail) [
      | inl (a, b, c) ↦ inl (ap (λ q. q ∷ xs) head ∙ ap (λ q. w ∷ q) a, b, c)
      | inr (ws, a, b) ↦ inr (ws, ap (λ q. q ∷ xs) head ∙ ap (λ q. w ∷ q) a, b)
    ]

-- two places in one list: the same, or one before the other
abbrev Placed : {X : Type 0} → List X → X → List X → X → Type 0
Placed {X} xs x ys y = ((xs ≡ ys) × (x ≡ y)) ⊎ (((ws : List X) × (ys ≡ xs ++ x ∷ ws)) ⊎ ((ws : List X) × (xs ≡ ys ++ y ∷ ws)))

placed : {X : Type 0} (xs ys us vs : List X) (x y : X) → xs ++ x ∷ us ≡ ys ++ y ∷ vs → Placed xs x ys y
placed [] [] us vs x y e = inl (refl, cc)
placed [] (z ∷ ys) us vs x y e = let head : z ≡ x = cc in inr (inl (ys, ap (λ q. q ∷ ys) head))
placed (z ∷ xs) [] us vs x y e = let head : z ≡ y = cc in inr (inr (xs, ap (λ q. q ∷ xs) head))
placed (z ∷ xs) (w ∷ ys) us vs x y e =
    let head : z ≡ w = cc in
    let tail : xs ++ x ∷ us ≡ ys ++ y ∷ vs = cc in
    elim (placed xs ys us vs x y tail) [
      | inl (a, b) ↦ inl (ap (λ q. q ∷ xs) head ∙ ap (λ q. w ∷ q) a, b)
      | inr (inl (ws, a)) ↦ inr (inl (ws, ap (λ q. q ∷ ys) (sym head) ∙ ap (λ q. z ∷ q) a))
      | inr (inr (ws, a)) ↦ inr (inr (ws, ap (λ q. q ∷ xs) head ∙ ap (λ q. w ∷ q) a))
    ]

-- Loads

-- two loads of one file that are the same, and those behind them
one_answer : (f : File) (a b : Answer) (ls ms us vs : List Load) → (load_of f a ∷ ls) ++ us ≡ (load_of f b ∷ ms) ++ vs → (a ≡ b) × (ls ++ us ≡ ms ++ vs)
one_answer f a b ls ms us vs e =
    let head : load_of f a ≡ load_of f b = cc in
    (ap (λ (l : Load). l.answer) head, cc)

same_bytes : (xs ys : List ℕ) → loaded xs ≡ loaded ys → xs ≡ ys
same_bytes xs ys e = cc

not_loaded : {x : List ℕ} {a : Answer} {t : Fault} (bytes : List ℕ) → IsRefusal x a t → a ≡ loaded bytes → ⊥
not_loaded bytes is_missing e = absurd (cc)
not_loaded bytes has_failed e = absurd (cc)
not_loaded bytes is_too_long e = absurd (cc)

one_refusal : {x : List ℕ} {a b : Answer} {t u : Fault} → IsRefusal x a t → IsRefusal x b u → a ≡ b → t ≡ u
one_refusal is_missing is_missing e = refl
one_refusal is_missing has_failed e = absurd (cc)
one_refusal is_missing is_too_long e = absurd (cc)
one_refusal has_failed is_missing e = absurd (cc)
one_refusal has_failed has_failed e = refl
one_refusal has_failed is_too_long e = absurd (cc)
one_refusal is_too_long is_missing e = absurd (cc)
one_refusal is_too_long has_failed e = absurd (cc)
one_refusal is_too_long is_too_long e = refl

-- Files that are read, and those that can't be

round_holds : (chain : List File) (f : File) (names : List (List ℕ)) → GoesRound chain f names → Contains chain f
round_holds chain f names g = subst (λ (x : List File). Contains x f) (sym g.whole) (Contains-append_right g.before (f ∷ g.behind) f (0, omega arith, refl))

is_new : {chain : List File} {f : File} {p q : Progress} {ls : List Load} → IsRead chain f p ls q → WasRead p f → ⊥
is_new (is_read new says are) w = new.not_read w

not_again : {chain : List File} {f : File} {p : Progress} {ls : List Load} {t : Fault} → IsUnreadable chain f p ls t → ¬ Contains chain f → WasRead p f → ⊥
not_again {chain = chain} {f = f} (goes_round {xs = xs} g) n w = n (round_holds chain f xs g)
not_again (is_one_more m k e) n w = k w
not_again (isnt_loaded new r) n w = new.not_read w
not_again (in_its_text new e a) n w = new.not_read w
not_again (at_a_place new b a) n w = new.not_read w

-- a file that is read is one that is read there
was_read_at : {f g : File} {p q : Progress} → f ≡ g → p ≡ q → WasRead p f → WasRead q g
was_read_at {f = f} {q = q} e h w = subst (λ (x : File). WasRead q x) e (subst (λ (x : Progress). WasRead x f) h w)

reads_at : {chain : List File} {f g : File} {p q r : Progress} {ls : List Load} → f ≡ g → p ≡ q → IsRead chain g q ls r → IsRead chain f p ls r
reads_at {chain = chain} {g = g} {p = p} {r = r} {ls = ls} e h i = subst (λ (x : File). IsRead chain x p ls r) (sym e) (subst (λ (x : Progress). IsRead chain g x ls r) (sym h) i)

refuses_at : {chain : List File} {f g : File} {p q : Progress} {ls : List Load} {t : Fault} → f ≡ g → p ≡ q → IsUnreadable chain g q ls t → IsUnreadable chain f p ls t
refuses_at {chain = chain} {g = g} {p = p} {ls = ls} {t = t} e h i = subst (λ (x : File). IsUnreadable chain x p ls t) (sym e) (subst (λ (x : Progress). IsUnreadable chain g x ls t) (sym h) i)

begins_at : {f : File} {xs ys : List ℕ} {is : List Item} {ts : List Lexed} → xs ≡ ys → Begins xs f is ts → Begins ys f is ts
begins_at {f = f} {is = is} {ts = ts} e b = subst (λ (x : List ℕ). Begins x f is ts) e b

-- what is behind one front of loads
behind : (ls ms us vs : List Load) → ls ≡ ms → ls ++ us ≡ ms ++ vs → us ≡ vs
behind ls ms us vs same e = append_cancel_left ls us vs (e ∙ ap (λ (x : List Load). x ++ vs) (sym same))

both : {ls ms ks ns : List Load} → ls ≡ ms → ks ≡ ns → ls ++ ks ≡ ms ++ ns
both {ms = ms} {ks = ks} e h = ap (λ (x : List Load). x ++ ks) e ∙ ap (λ (x : List Load). ms ++ x) h

mutual
  are_one : {chain fs gs : List File} {p q r : Progress} {ls ms : List Load} (us vs : List Load) → AreRead chain fs p ls q → AreRead chain gs p ms r → fs ≡ gs → ls ++ us ≡ ms ++ vs → (ls ≡ ms) × (q ≡ r)
  are_one us vs none none e l = (refl, refl)
  are_one us vs none (again {f = f} {fs = gs} b n w) e l = absurd (omega (arith, ap length e, length-append gs (f ∷ [])))
  are_one us vs none (once {f = f} {fs = gs} b i) e l = absurd (omega (arith, ap length e, length-append gs (f ∷ [])))
  are_one us vs (again {f = f} {fs = fs} a n w) none e l = absurd (omega (arith, ap length e, length-append fs (f ∷ [])))
  are_one us vs (once {f = f} {fs = fs} a i) none e l = absurd (omega (arith, ap length e, length-append fs (f ∷ [])))
  are_one us vs (again {f = f} {fs = fs} a n w) (again {f = g} {fs = gs} b m v) e l = are_one us vs a b (last_two fs gs f g e).0 l
  are_one us vs (again {f = f} {fs = fs} a n w) (once {f = g} {fs = gs} {ls = ms} {ms = ns} b j) e l =
      let same = last_two fs gs f g e in
      let one = are_one us (ns ++ vs) a b same.0 (l ∙ append_assoc ms ns vs) in
      absurd (is_new j (was_read_at same.1 one.1 w))
  are_one us vs (once {f = f} {fs = fs} {ls = ls} {ms = ks} a i) (again {f = g} {fs = gs} b n w) e l =
      let same = last_two fs gs f g e in
      let one = are_one (ks ++ us) vs a b same.0 (sym (append_assoc ls ks us) ∙ l) in
      absurd (is_new i (was_read_at (sym same.1) (sym one.1) w))
  are_one us vs (once {f = f} {fs = fs} {ls = ls} {ms = ks} a i) (once {f = g} {fs = gs} {ls = ms} {ms = ns} b j) e l =
      let same = last_two fs gs f g e in
      let whole : ls ++ (ks ++ us) ≡ ms ++ (ns ++ vs) = sym (append_assoc ls ks us) ∙ l ∙ append_assoc ms ns vs in
      let one = are_one (ks ++ us) (ns ++ vs) a b same.0 whole in
      let two = is_one us vs i (reads_at same.1 one.1 j) (behind ls ms (ks ++ us) (ns ++ vs) one.0 whole) in
      (both one.0 two.0, two.1)

  is_one : {chain : List File} {f : File} {p q r : Progress} {ls ms : List Load} (us vs : List Load) → IsRead chain f p ls q → IsRead chain f p ms r → ls ++ us ≡ ms ++ vs → (ls ≡ ms) × (q ≡ r)
  is_one {f = f} us vs (is_read {bytes = xs} {is = is} {ls = ls} {q = q} new says a) (is_read {bytes = ys} {is = js} {ls = ms} {q = r} now said b) l =
      let head = one_answer f (loaded xs) (loaded ys) ls ms us vs l in
      let items : is ≡ js = says_one ys f (begins_at (same_bytes xs ys head.0) says) said in
      let inner = are_one us vs a b (ap (asked_by f.kind) items) head.1 in (
        ap (λ (x : Answer). load_of f x ∷ ls) head.0 ∙ ap (λ (x : List Load). load_of f (loaded ys) ∷ x) inner.0,
        ap (λ (x : Progress). behind_all x f is) inner.1 ∙ ap (behind_all r f) items,
      )

-- what more items ask for stands behind
more_asked : (k : FileKind) (is js more : List Item) (done later : List File) (g : File) → is ≡ js ++ more → asked_by k js ≡ done ++ g ∷ later → asked_by k is ≡ done ++ g ∷ (later ++ asked_by k more)
more_asked k is js more done later g e h =
    ap (asked_by k) e ∙ asked_by_on k js more ∙ ap (λ (x : List File). x ++ asked_by k more) h ∙ append_assoc done (g ∷ later) (asked_by k more)

mutual
  not_faulty : {chain fs done : List File} {f : File} {p q r : Progress} {ls ms ns : List Load} {t : Fault} (later : List File) (us vs : List Load) → AreRead chain fs p ls q → fs ≡ done ++ f ∷ later
      → AreRead chain done p ms r → IsUnreadable chain f r ns t → ls ++ us ≡ (ms ++ ns) ++ vs → ⊥
  not_faulty {done = done} {f = f} later us vs none e d i l = omega (arith, ap length e, length-append done (f ∷ later))
  not_faulty {chain = chain} {done = done} {f = f} {ms = ms} {ns = ns} later us vs (again {f = g} {fs = gs} a n w) e d i l =
      elim (found gs done later g f e) [
        | inl (front, same, empty) ↦
            let one = are_one us (ns ++ vs) a d front (l ∙ append_assoc ms ns vs) in
            not_again i (subst (λ (x : File). ¬ Contains chain x) same n) (was_read_at same one.1 w)
        | inr (ws, front, rest) ↦ not_faulty ws us vs a front d i l
      ]
  not_faulty {done = done} {f = f} {ms = ms} {ns = ns} later us vs (once {f = g} {fs = gs} {ls = ls} {ms = ks} a j) e d i l =
      let whole : ls ++ (ks ++ us) ≡ ms ++ (ns ++ vs) = sym (append_assoc ls ks us) ∙ l ∙ append_assoc ms ns vs in
      elim (found gs done later g f e) [
        | inl (front, same, empty) ↦
            let one = are_one (ks ++ us) (ns ++ vs) a d front whole in
            not_unreadable us vs j (refuses_at same one.1 i) (behind ls ms (ks ++ us) (ns ++ vs) one.0 whole)
        | inr (ws, front, rest) ↦ not_faulty ws (ks ++ us) vs a front d i (sym (append_assoc ls ks us) ∙ l)
      ]

  not_unreadable : {chain : List File} {f : File} {p q : Progress} {ls ms : List Load} {t : Fault} (us vs : List Load) → IsRead chain f p ls q → IsUnreadable chain f p ms t → ls ++ us ≡ ms ++ vs → ⊥
  not_unreadable {chain = chain} {f = f} us vs (is_read new says a) (goes_round {xs = xs} g) l = new.no_circle (round_holds chain f xs g)
  not_unreadable us vs (is_read new says a) (is_one_more n m e) l = omega (arith, new.within, e)
  not_unreadable {f = f} us vs (is_read {bytes = xs} {ls = ls} new says a) (isnt_loaded {a = y} now r) l =
      let head = one_answer f (loaded xs) y ls [] us vs l in
      not_loaded xs r (sym head.0)
  not_unreadable {f = f} us vs (is_read {bytes = xs} {ls = ls} new says a) (in_its_text {bytes = ys} {ls = ms} now fault b) l =
      let head = one_answer f (loaded xs) (loaded ys) ls ms us vs l in
      says_or_faulty ys f fault (begins_at (same_bytes xs ys head.0) says)
  not_unreadable {f = f} us vs (is_read {bytes = xs} {is = is} {ls = ls} new says a) (at_a_place {bytes = ys} {is = js} now begins (at_one {done = done} later {f = g} {ls = ms} {ms = ns} e d i)) l =
      let head = one_answer f (loaded xs) (loaded ys) ls (ms ++ ns) us vs l in
      let more = says_more ys f (begins_at (same_bytes xs ys head.0) says) begins in
      not_faulty (later ++ asked_by f.kind more.0) us vs a (more_asked f.kind is js more.0 done later g more.1 e) d i head.1

-- No file stands twice among those that are being read

abbrev IsDistinct : List File → Type 0
IsDistinct chain = (f : File) (xs ys zs ws : List File) → chain ≡ xs ++ f ∷ ys → chain ≡ zs ++ f ∷ ws → ys ≡ ws

none_twice : IsDistinct []
none_twice f xs ys zs ws e h = absurd (omega (arith, ap length e, length-append xs (f ∷ ys)))

holds_it : (chain xs ys : List File) (f : File) → chain ≡ xs ++ f ∷ ys → Contains chain f
holds_it chain xs ys f e = subst (λ (x : List File). Contains x f) (sym e) (Contains-append_right xs (f ∷ ys) f (0, omega arith, refl))

one_more_distinct : {chain : List File} {g : File} → IsDistinct chain → ¬ Contains chain g → IsDistinct (chain ++ g ∷ [])
one_more_distinct {chain = chain} {g = g} d n f xs ys zs ws e h =
    elim (found chain xs ys g f e) [
      | inl (a, is, last) ↦ elim (found chain zs ws g f h) [
        | inl (b, s, empty) ↦ last ∙ sym empty
        | inr (vs, b, whole) ↦ absurd (n (subst (Contains chain) (sym is) (holds_it chain zs vs f b)))
      ]
      | inr (us, a, rest) ↦ elim (found chain zs ws g f h) [
        | inl (b, is, empty) ↦ absurd (n (subst (Contains chain) (sym is) (holds_it chain xs us f a)))
        | inr (vs, b, whole) ↦ rest ∙ ap (λ (x : List File). x ++ g ∷ []) (d f xs us zs vs a b) ∙ sym whole
      ]
    ]

-- Files that can't be read

mutual
  faulty_alike : {chain fs gs : List File} {p : Progress} {ls ms : List Load} {t u : Fault} (xs ys : List File) (us vs : List Load) → IsDistinct chain → AreFaulty chain fs p ls t → AreFaulty chain gs p ms u
      → fs ++ xs ≡ gs ++ ys → ls ++ us ≡ ms ++ vs → (ls ≡ ms) × (t ≡ u)
  faulty_alike xs ys us vs distinct (at_one {done = done} later {f = f} {ls = ls} {ms = ks} e a i) (at_one {done = front} after {f = g} {ls = ms} {ms = ns} h b j) z l =
      let whole : done ++ f ∷ (later ++ xs) ≡ front ++ g ∷ (after ++ ys) =
      sym (append_assoc done (f ∷ later) xs) ∙ sym (ap (λ (x : List File). x ++ xs) e) ∙ z ∙ ap (λ (x : List File). x ++ ys) h ∙ append_assoc front (g ∷ after) ys in
      elim (placed done front (later ++ xs) (after ++ ys) f g whole) [
        | inl (same, is) ↦
            let loads : ls ++ (ks ++ us) ≡ ms ++ (ns ++ vs) = sym (append_assoc ls ks us) ∙ l ∙ append_assoc ms ns vs in
            let one = are_one (ks ++ us) (ns ++ vs) a b same loads in
            let two = unreadable_alike us vs distinct i (refuses_at is one.1 j) (behind ls ms (ks ++ us) (ns ++ vs) one.0 loads) in
            (both one.0 two.0, two.1)
        | inr (inl (ws, k)) ↦ absurd (not_faulty ws (ns ++ vs) us b k a i (sym (append_assoc ms ns vs) ∙ sym l))
        | inr (inr (ws, k)) ↦ absurd (not_faulty ws (ks ++ us) vs a k b j (sym (append_assoc ls ks us) ∙ l))
      ]

  unreadable_alike : {chain : List File} {f : File} {p : Progress} {ls ms : List Load} {t u : Fault} (us vs : List Load) → IsDistinct chain → IsUnreadable chain f p ls t → IsUnreadable chain f p ms u
      → ls ++ us ≡ ms ++ vs → (ls ≡ ms) × (t ≡ u)
  unreadable_alike {f = f} us vs distinct (goes_round a) (goes_round b) l =
      let same = distinct f a.before a.behind b.before b.behind a.whole b.whole in
      (refl, ap circular (a.names_are ∙ ap (λ (x : List File). map (λ (g : File). g.base) (f ∷ x) ++ f.base ∷ []) same ∙ sym b.names_are))
  unreadable_alike {chain = chain} {f = f} us vs distinct (goes_round {xs = xs} a) (is_one_more n m e) l = absurd (n (round_holds chain f xs a))
  unreadable_alike {chain = chain} {f = f} us vs distinct (goes_round {xs = xs} a) (isnt_loaded new r) l = absurd (new.no_circle (round_holds chain f xs a))
  unreadable_alike {chain = chain} {f = f} us vs distinct (goes_round {xs = xs} a) (in_its_text new e b) l = absurd (new.no_circle (round_holds chain f xs a))
  unreadable_alike {chain = chain} {f = f} us vs distinct (goes_round {xs = xs} a) (at_a_place new b c) l = absurd (new.no_circle (round_holds chain f xs a))
  unreadable_alike {chain = chain} {f = f} us vs distinct (is_one_more n m e) (goes_round {xs = xs} a) l = absurd (n (round_holds chain f xs a))
  unreadable_alike us vs distinct (is_one_more n m e) (is_one_more k j h) l = (refl, refl)
  unreadable_alike us vs distinct (is_one_more n m e) (isnt_loaded new r) l = absurd (omega (arith, new.within, e))
  unreadable_alike us vs distinct (is_one_more n m e) (in_its_text new h b) l = absurd (omega (arith, new.within, e))
  unreadable_alike us vs distinct (is_one_more n m e) (at_a_place new b c) l = absurd (omega (arith, new.within, e))
  unreadable_alike {chain = chain} {f = f} us vs distinct (isnt_loaded new r) (goes_round {xs = xs} a) l = absurd (new.no_circle (round_holds chain f xs a))
  unreadable_alike us vs distinct (isnt_loaded new r) (is_one_more n m e) l = absurd (omega (arith, new.within, e))
  unreadable_alike {f = f} us vs distinct (isnt_loaded {a = x} new r) (isnt_loaded {a = y} now s) l =
      let head = one_answer f x y [] [] us vs l in
      (ap (λ (a : Answer). load_of f a ∷ []) head.0, one_refusal r s head.0)
  unreadable_alike {f = f} us vs distinct (isnt_loaded {a = x} new r) (in_its_text {bytes = ys} {ls = ms} now e b) l = absurd (not_loaded ys r (one_answer f x (loaded ys) [] ms us vs l).0)
  unreadable_alike {f = f} us vs distinct (isnt_loaded {a = x} new r) (at_a_place {bytes = ys} {ls = ms} now b c) l = absurd (not_loaded ys r (one_answer f x (loaded ys) [] ms us vs l).0)
  unreadable_alike {chain = chain} {f = f} us vs distinct (in_its_text new e b) (goes_round {xs = xs} a) l = absurd (new.no_circle (round_holds chain f xs a))
  unreadable_alike us vs distinct (in_its_text new h b) (is_one_more n m e) l = absurd (omega (arith, new.within, e))
  unreadable_alike {f = f} us vs distinct (in_its_text {bytes = xs} {ls = ls} new e a) (isnt_loaded {a = y} now r) l = absurd (not_loaded xs r (sym (one_answer f (loaded xs) y ls [] us vs l).0))
  unreadable_alike {f = f} us vs distinct (in_its_text {bytes = xs} {is = is} {t = t} {ls = ls} new e a) (in_its_text {bytes = ys} {is = js} {ls = ms} now h b) l =
      let head = one_answer f (loaded xs) (loaded ys) ls ms us vs l in
      let one = faulty_one ys f (subst (λ (x : List ℕ). IsFaulty x f is t) (same_bytes xs ys head.0) e) h in
      let inner = are_one us vs a b (ap (asked_by f.kind) one.0) head.1 in (
        ap (λ (x : Answer). load_of f x ∷ ls) head.0 ∙ ap (λ (x : List Load). load_of f (loaded ys) ∷ x) inner.0,
        ap (text_fault (name_of f)) one.1,
      )
  unreadable_alike {f = f} us vs distinct (in_its_text {bytes = xs} {is = is} {t = t} {ls = ls} new e a) (at_a_place {bytes = ys} {is = js} now begins (at_one {done = done} later {f = g} {ls = ms} {ms = ns} h d i)) l =
      let head = one_answer f (loaded xs) (loaded ys) ls (ms ++ ns) us vs l in
      let more = faulty_behind ys f (subst (λ (x : List ℕ). IsFaulty x f is t) (same_bytes xs ys head.0) e) begins in
      absurd (not_faulty (later ++ asked_by f.kind more.0) us vs a (more_asked f.kind is js more.0 done later g more.2 h) d i head.1)
  unreadable_alike {chain = chain} {f = f} us vs distinct (at_a_place new b c) (goes_round {xs = xs} a) l = absurd (new.no_circle (round_holds chain f xs a))
  unreadable_alike us vs distinct (at_a_place new b c) (is_one_more n m e) l = absurd (omega (arith, new.within, e))
  unreadable_alike {f = f} us vs distinct (at_a_place {bytes = xs} {ls = ls} new b c) (isnt_loaded {a = y} now r) l = absurd (not_loaded xs r (sym (one_answer f (loaded xs) y ls [] us vs l).0))
  unreadable_alike {f = f} us vs distinct (at_a_place {bytes = xs} {is = is} new begins (at_one {done = done} later {f = g} {ls = ls} {ms = ks} h d i)) (in_its_text {bytes = ys} {is = js} {ls = ms} now e b) l =
      let head = one_answer f (loaded xs) (loaded ys) (ls ++ ks) ms us vs l in
      let more = faulty_behind ys f e (begins_at (same_bytes xs ys head.0) begins) in
      absurd (not_faulty (later ++ asked_by f.kind more.0) vs us b (more_asked f.kind js is more.0 done later g more.2 h) d i (sym head.1))
  unreadable_alike {chain = chain} {f = f} us vs distinct (at_a_place {bytes = xs} {is = is} {t = t} {ls = ls} new begins a) (at_a_place {bytes = ys} {is = js} {t = u} {ls = ms} now begun b) l =
      let head = one_answer f (loaded xs) (loaded ys) ls ms us vs l in
      let more = begin_alike ys f (begins_at (same_bytes xs ys head.0) begins) begun in
      let within : IsDistinct (chain ++ f ∷ []) = one_more_distinct distinct new.no_circle in
      let inner : (ls ≡ ms) × (t ≡ u) =
      elim more.1 [
        | inl (e, h) ↦ faulty_alike (asked_by f.kind more.0) [] us vs within a b (sym (asked_by_on f.kind is more.0) ∙ sym (ap (asked_by f.kind) e) ∙ sym (append-nil (asked_by f.kind js))) head.1
        | inr (e, h) ↦ faulty_alike [] (asked_by f.kind more.0) us vs within a b (append-nil (asked_by f.kind is) ∙ ap (asked_by f.kind) e ∙ asked_by_on f.kind js more.0) head.1
      ] in
      (ap (λ (x : Answer). load_of f x ∷ ls) head.0 ∙ ap (λ (x : List Load). load_of f (loaded ys) ∷ x) inner.0, inner.1)

-- A specification

pub read_or_refused : (x : List ℕ) (ls ms us vs : List Load) (fs : List Read) (t : Fault) → ls ++ us ≡ ms ++ vs → IsSpecification x ls fs → IsRefused x ms t → ⊥
read_or_refused x ls ms us vs fs t l a b = apart a.1 b l
  where
    apart : {q : Progress} {ks : List Load} → AreRead [] (files_of x) beginning ls q → AreFaulty [] (files_of x) beginning ks t → ls ++ us ≡ ks ++ vs → ⊥
    apart h (at_one later e d i) k = not_faulty later us vs h e d i k

pub one_reading : (x : List ℕ) (ls ms us vs : List Load) (fs gs : List Read) → ls ++ us ≡ ms ++ vs → IsSpecification x ls fs → IsSpecification x ms gs → (ls ≡ ms) × (fs ≡ gs)
one_reading x ls ms us vs fs gs l a b = let one = are_one us vs a.1 b.1 refl l in (one.0, ap (λ (p : Progress). p.files) one.1)

pub one_fault : (x : List ℕ) (ls ms us vs : List Load) (t u : Fault) → ls ++ us ≡ ms ++ vs → IsRefused x ls t → IsRefused x ms u → (ls ≡ ms) × (t ≡ u)
one_fault x ls ms us vs t u l a b = faulty_alike [] [] us vs none_twice a b refl l
