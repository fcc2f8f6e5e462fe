-- The text of a file is read in one way: its title, and the items in front, one after another; or it has one first fault.
use Rattle.std.proofs.Common.{◌≡◌, ◌≢◌, ◌⊎◌, ℕ, zero, suc, List, [], ◌∷◌, ◌++◌, Contains, map, length, refl, ap, sym, ◌∙◌, subst, inl, inr, arith, append_assoc, append-nil, length-append}
use Rattle.std.proofs.lemmas.List.{length-map}
use Rattle.std.proofs.lemmas.List.Elements.{Contains-append_right, Contains-push}
use Rattle.ab_lex.specs.declared.token.Token.{Token as Lexed}
use Rattle.ab_lex.specs.declared.token.LexFault.{LexFault}
use Rattle.ab_lex.specs.Tokens.{TokensOf, FaultOf, place_of}
use Rattle.ab_lex.proofs.OneReading.{tokens_unique, fault_unique, fault_excludes}
use Rattle.ab_grammar.specs.declared.file.FileKind.{FileKind}
use Rattle.ab_grammar.specs.declared.file.FileKind.TheVariants.{Signature, Module}
use Rattle.ab_grammar.specs.Token.{Token, other, stop}
use Rattle.ab_grammar.specs.Nesting.{Spot, blamed, lone}
use Rattle.ab_grammar.specs.Language.{Accepted, the_key}
use Rattle.ab_grammar.specs.CommandForms.{Form, joined}
use Rattle.ab_grammar.specs.FileTrees.{Item}
use Rattle.ab_grammar.specs.FileTable.{TitleText, ItemText}
use Rattle.ab_grammar.specs.FileTokens.{item_tokens}
use Rattle.ab_grammar.proofs.OneFile.{one_title, one_item}
use Rattle.ab_grammar.proofs.OneAnswer.{text_or_syntax, text_or_nested, syntax_or_nested, one_syntax, one_nested}
use Rattle.ab_syntax.specs.ab_expressions.specs.Tokens.{token_of, tokens_from}
use Rattle.ab_syntax.specs.Faults.{place_past}
use Rattle.ab_sigmod.specs.FileNames.{File, slash, IsTitle}
use Rattle.ab_sigmod.specs.FileTexts.{TextFault, syntax, too_nested, wrong_title, Divided, IsRefused, for_its_form, for_its_depth, ItemRead, ItemsRead, none_yet, one_more, Titled, Begins, IsFaulty, no_tokens, no_title, other_title, no_item}

-- Lists

same_front : {X : Type 0} (xs ys us vs : List X) → xs ++ us ≡ ys ++ vs → length xs ≡ length ys → (xs ≡ ys) × (us ≡ vs)
same_front [] [] us vs e n = (refl, e)
same_front [] (y ∷ ys) us vs e n = absurd (omega (arith, n))
same_front (x ∷ xs) [] us vs e n = absurd (omega (arith, n))
same_front (x ∷ xs) (y ∷ ys) us vs e n =
    let head : x ≡ y = cc in
    let tail : xs ++ us ≡ ys ++ vs = cc in
    let rest = same_front xs ys us vs tail (omega (arith, n)) in
    (ap (λ z. z ∷ xs) head ∙ ap (λ zs. y ∷ zs) rest.0, rest.1)

-- The title of a name

has_slash : (folder x : List ℕ) → Contains (folder ++ slash ∷ x) slash
has_slash folder x = Contains-append_right folder (slash ∷ x) slash (zero, omega arith, refl)

behind_one : (f g x y : List ℕ) → f ++ slash ∷ x ≡ g ++ slash ∷ y → ¬ Contains x slash → ¬ Contains y slash → x ≡ y
behind_one [] [] x y e m n = cc
behind_one [] (b ∷ g) x y e m n = let same : x ≡ g ++ slash ∷ y = cc in absurd (m (subst (λ z. Contains z slash) (sym same) (has_slash g y)))
behind_one (a ∷ f) [] x y e m n = let same : y ≡ f ++ slash ∷ x = cc in absurd (n (subst (λ z. Contains z slash) (sym same) (has_slash f x)))
behind_one (a ∷ f) (b ∷ g) x y e m n = let tail : f ++ slash ∷ x ≡ g ++ slash ∷ y = cc in behind_one f g x y tail m n

one_title_of : (base x y : List ℕ) → IsTitle base x → IsTitle base y → x ≡ y
one_title_of base x y (m, inl a) (n, inl b) = sym a ∙ b
one_title_of base x y (m, inl a) (n, inr (g, b)) = absurd (m (subst (λ z. Contains z slash) (sym b ∙ a) (has_slash g y)))
one_title_of base x y (m, inr (f, a)) (n, inl b) = absurd (n (subst (λ z. Contains z slash) (sym a ∙ b) (has_slash f x)))
one_title_of base x y (m, inr (f, a)) (n, inr (g, b)) = behind_one f g x y (sym a ∙ b) m n

-- No item is empty

no_tokens_left : (k : FileKind) → item_tokens k [] ≡ []
no_tokens_left Signature = refl
no_tokens_left Module = refl

ends : (k : FileKind) {us : List Spot} {i : Item} → ItemText k us i → length us ≡ 0 → ⊥
ends k (joined {us = us} g the_key) e = omega (arith, e, length-append us (lone (other stop) ∷ []))

no_empty_item : (k : FileKind) (i : Item) → Accepted (ItemText k) [] i → ⊥
no_empty_item k i a = ends k a.text (sym (length-map a.read (λ (s : Spot). s.token)) ∙ ap length a.tokens)

module _ (bytes : List ℕ) where
  -- Sentences

  one_division : {ts us vs ws xs : List Lexed} → Divided bytes ts us vs → Divided bytes ts ws xs → (us ≡ ws) × (vs ≡ xs)
  one_division {us = us} {vs = vs} {ws = ws} {xs = xs} a b =
      same_front us ws vs xs (sym a.whole ∙ b.whole)
      (sym (length-map us (token_of bytes 0)) ∙ ap length (a.is_sentence ∙ sym b.is_sentence) ∙ length-map ws (token_of bytes 0))

  text_or_refused : {A : Type 0} (G : Form A) (ks : List Token) (us : List Lexed) (a : A) {t : TextFault} → Accepted G ks a → IsRefused bytes G ks us t → ⊥
  text_or_refused G ks us a k (for_its_form i r) = text_or_syntax G ks a i k r
  text_or_refused G ks us a k (for_its_depth i r) = text_or_nested G ks a i k r

  one_refusal : {A : Type 0} (G : Form A) (ks : List Token) (us : List Lexed) {t u : TextFault} → IsRefused bytes G ks us t → IsRefused bytes G ks us u → t ≡ u
  one_refusal G ks us (for_its_form i a) (for_its_form j b) = ap (λ n. syntax (place_past bytes 0 us n)) (one_syntax G ks i j a b)
  one_refusal G ks us (for_its_form i a) (for_its_depth j b) = absurd (syntax_or_nested G ks i j a b)
  one_refusal G ks us (for_its_depth i a) (for_its_form j b) = absurd (syntax_or_nested G ks j i b a)
  one_refusal G ks us (for_its_depth i a) (for_its_depth j b) = ap (λ n. too_nested (place_past bytes 0 us (blamed ks n))) (one_nested G ks i j a b)

  module _ (k : FileKind) where
    -- Items

    one_item_read : {ts us vs : List Lexed} {i j : Item} → ItemRead bytes k ts i us → ItemRead bytes k ts j vs → (i ≡ j) × (us ≡ vs)
    one_item_read {i = i} {j = j} a b =
        let d = one_division a.divided b.divided in
        let here : Accepted (ItemText k) (item_tokens k (tokens_from bytes 0 b.written)) i = subst (λ (ws : List Lexed). Accepted (ItemText k) (item_tokens k (tokens_from bytes 0 ws)) i) d.0 a.is in
        (one_item k (item_tokens k (tokens_from bytes 0 b.written)) i j here b.is, d.1)

    item_or_refused : {ts us vs ws : List Lexed} {i : Item} {t : TextFault} → ItemRead bytes k ts i us → Divided bytes ts ws vs
        → IsRefused bytes (ItemText k) (item_tokens k (tokens_from bytes 0 ws)) ws t → ⊥
    item_or_refused {ws = ws} {i = i} a d r =
        let e = one_division a.divided d in
        text_or_refused (ItemText k) (item_tokens k (tokens_from bytes 0 ws)) ws i
        (subst (λ (vs : List Lexed). Accepted (ItemText k) (item_tokens k (tokens_from bytes 0 vs)) i) e.0 a.is) r

    no_item_of_none : {us : List Lexed} {i : Item} → ItemRead bytes k [] i us → ⊥
    no_item_of_none {i = i} a = none a.written _ a.divided.whole a.is
      where
        none : (ws vs : List Lexed) → [] ≡ ws ++ vs → Accepted (ItemText k) (item_tokens k (tokens_from bytes 0 ws)) i → ⊥
        none [] vs e h = no_empty_item k i (subst (λ (ts : List Token). Accepted (ItemText k) ts i) (no_tokens_left k) h)
        none (w ∷ ws) vs e h = absurd (cc)

    -- the first of the items, if there is one
    abbrev pub First : List Lexed → List Item → List Lexed → Type 0
    First ts is us = ((is ≡ []) × (ts ≡ us)) ⊎ ((i : Item) × (rest : List Item) × (ws : List Lexed) × (is ≡ i ∷ rest) × ItemRead bytes k ts i ws × ItemsRead bytes k ws rest us)

    first : {ts us : List Lexed} {is : List Item} → ItemsRead bytes k ts is us → First ts is us
    first none_yet = inl (refl, refl)
    first (one_more {i = j} {vs = vs} a r) =
        elim (first a) [
          | inl (e, same) ↦ inr (j, [], vs, ap (λ (x : List Item). x ++ j ∷ []) e, subst (λ (ts : List Lexed). ItemRead bytes k ts j vs) (sym same) r, none_yet)
          | inr (i, rest, ws, e, b, c) ↦ inr (i, rest ++ j ∷ [], ws, ap (λ (x : List Item). x ++ j ∷ []) e, b, one_more c r)
        ]

    nothing_behind : {us : List Lexed} {is : List Item} → ItemsRead bytes k [] is us → (is ≡ []) × ([] ≡ us)
    nothing_behind a =
        elim (first a) [
          | inl h ↦ h
          | inr (i, rest, ws, e, b, c) ↦ absurd (no_item_of_none b)
        ]

    -- one of two rows of items goes on where the other ends
    abbrev pub Compared : List Item → List Lexed → List Item → List Lexed → Type 0
    Compared is us js vs = (more : List Item) × (((js ≡ is ++ more) × ItemsRead bytes k us more vs) ⊎ ((is ≡ js ++ more) × ItemsRead bytes k vs more us))

    compared : {ts us vs : List Lexed} {is js : List Item} → ItemsRead bytes k ts is us → ItemsRead bytes k ts js vs → Compared is us js vs
    compared {is = is} a none_yet = (is, inr (refl, a))
    compared {us = us} {is = is} a (one_more {is = js} {i = j} {us = ws} {vs = vs} b r) =
        let m = compared a b in
        elim m.1 [
          | inl (e, h) ↦ (m.0 ++ j ∷ [], inl (ap (λ (x : List Item). x ++ j ∷ []) e ∙ append_assoc is m.0 (j ∷ []), one_more h r))
          | inr (e, h) ↦ elim (first h) [
            | inl (none, same) ↦ (
              j ∷ [],
              inl (
                ap (λ (x : List Item). x ++ j ∷ []) (sym (append-nil js) ∙ ap (λ (x : List Item). js ++ x) (sym none) ∙ sym e),
                one_more (subst (λ (x : List Lexed). ItemsRead bytes k us [] x) (sym same) none_yet) r,
              ),
            )
            | inr (i, rest, xs, whole, c, d) ↦
                let one = one_item_read c r in (
                  rest,
                  inr (
                    e ∙ ap (λ (x : List Item). js ++ x) whole ∙ ap (λ (x : Item). js ++ x ∷ rest) one.0 ∙ sym (append_assoc js (j ∷ []) rest),
                    subst (λ (x : List Lexed). ItemsRead bytes k x rest us) one.1 d,
                  ),
                )
          ]
        ]

  module _ (f : File) where
    -- Titles

    one_titled : {us vs : List Lexed} → Titled bytes f us → Titled bytes f vs → us ≡ vs
    one_titled {us = us} a b =
        let same = tokens_unique a.all b.all in
        (one_division (subst (λ (ts : List Lexed). Divided bytes ts a.written us) same a.divided) b.divided).1

    title_or_refused : {ts us vs ws : List Lexed} {t : TextFault} → Titled bytes f ws → TokensOf bytes ts → Divided bytes ts us vs → IsRefused bytes (TitleText f.kind) (tokens_from bytes 0 us) us t → ⊥
    title_or_refused {us = us} {ws = ws} a all d r =
        let same = tokens_unique a.all all in
        let e = one_division (subst (λ (ts : List Lexed). Divided bytes ts a.written ws) same a.divided) d in
        text_or_refused (TitleText f.kind) (tokens_from bytes 0 us) us a.title
        (subst (λ (x : List Lexed). Accepted (TitleText f.kind) (tokens_from bytes 0 x) a.title) e.0 a.is) r

    title_or_other : {ts us vs ws : List Lexed} {x y : List ℕ} → Titled bytes f ws → TokensOf bytes ts → Divided bytes ts us vs → Accepted (TitleText f.kind) (tokens_from bytes 0 us) x
        → IsTitle f.base y → x ≢ y → ⊥
    title_or_other {us = us} {ws = ws} {x = x} {y = y} a all d h t not =
        let same = tokens_unique a.all all in
        let e = one_division (subst (λ (ts : List Lexed). Divided bytes ts a.written ws) same a.divided) d in
        let is : a.title ≡ x = one_title f.kind (tokens_from bytes 0 us) a.title x (subst (λ (z : List Lexed). Accepted (TitleText f.kind) (tokens_from bytes 0 z) a.title) e.0 a.is) h in
        not (sym is ∙ one_title_of f.base a.title y a.right t)

    -- Files

    pub begin_alike : {is js : List Item} {us vs : List Lexed} → Begins bytes f is us → Begins bytes f js vs → Compared f.kind is us js vs
    begin_alike {is = is} {us = us} a b =
        compared f.kind (subst (λ (ts : List Lexed). ItemsRead bytes f.kind ts is us) (one_titled a.titled b.titled) a.items) b.items

    -- a file that says all its items begins with no others
    pub says_more : {is js : List Item} {vs : List Lexed} → Begins bytes f is [] → Begins bytes f js vs → (more : List Item) × (is ≡ js ++ more)
    says_more {is = is} a b =
        let m = begin_alike a b in
        elim m.1 [
          | inl (e, h) ↦ let none = nothing_behind f.kind h in ([], sym (append-nil is) ∙ ap (λ (x : List Item). is ++ x) (sym none.0) ∙ sym e ∙ sym (append-nil _))
          | inr (e, h) ↦ (m.0, e)
        ]

    pub says_one : {is js : List Item} → Begins bytes f is [] → Begins bytes f js [] → is ≡ js
    says_one {is = is} {js = js} a b =
        let m = begin_alike a b in
        elim m.1 [
          | inl (e, h) ↦ sym (append-nil is) ∙ ap (λ (x : List Item). is ++ x) (sym (nothing_behind f.kind h).0) ∙ sym e
          | inr (e, h) ↦ e ∙ ap (λ (x : List Item). js ++ x) (nothing_behind f.kind h).0 ∙ append-nil js
        ]

    -- a fault stands behind all items with which the file begins
    pub faulty_behind : {is js : List Item} {vs : List Lexed} {t : TextFault} → IsFaulty bytes f is t → Begins bytes f js vs
        → (more : List Item) × (ts : List Lexed) × (is ≡ js ++ more) × ItemsRead bytes f.kind vs more ts × (ts ≢ [])
    faulty_behind (no_tokens e) b = absurd (fault_excludes e b.titled.all)
    faulty_behind (no_title all d r) b = absurd (title_or_refused b.titled all d r)
    faulty_behind (other_title all d h t not) b = absurd (title_or_other b.titled all d h t not)
    faulty_behind {js = js} (no_item {is = is} {ts = ts} a some d r) b =
        let m = begin_alike a b in
        elim m.1 [
          | inl (e, h) ↦ elim (first f.kind h) [
            | inl (none, same) ↦ (
              [],
              ts,
              sym (append-nil is) ∙ ap (λ (x : List Item). is ++ x) (sym none) ∙ sym e ∙ sym (append-nil js),
              subst (λ (x : List Lexed). ItemsRead bytes f.kind x [] ts) same none_yet,
              some,
            )
            | inr (i, rest, ws, whole, c, g) ↦ absurd (item_or_refused f.kind c d r)
          ]
          | inr (e, h) ↦ (m.0, ts, e, h, some)
        ]

    pub says_or_faulty : {is js : List Item} {t : TextFault} → IsFaulty bytes f is t → Begins bytes f js [] → ⊥
    says_or_faulty a b = let m = faulty_behind a b in m.4 (sym (nothing_behind f.kind m.3).1)

    -- two first faults behind items

    same_item_fault : {is js : List Item} {t u : TextFault} {ts us vs tt uu ww : List Lexed} → Begins bytes f is ts → Divided bytes ts us vs
        → IsRefused bytes (ItemText f.kind) (item_tokens f.kind (tokens_from bytes 0 us)) us t → Begins bytes f js tt → Divided bytes tt uu ww
        → IsRefused bytes (ItemText f.kind) (item_tokens f.kind (tokens_from bytes 0 uu)) uu u → (is ≡ js) × (t ≡ u)
    same_item_fault {is = is} {js = js} {t = t} {u = u} {ts = ts} {us = us} {vs = vs} {tt = tt} {uu = uu} a d r b e q =
        let m = begin_alike a b in
        elim m.1 [
          | inl (g, h) ↦ elim (first f.kind h) [
            | inl (none, same) ↦ (
              sym (append-nil is) ∙ ap (λ (x : List Item). is ++ x) (sym none) ∙ sym g,
              one same,
            )
            | inr (i, rest, ws, whole, c, k) ↦ absurd (item_or_refused f.kind c d r)
          ]
          | inr (g, h) ↦ elim (first f.kind h) [
            | inl (none, same) ↦ (
              g ∙ ap (λ (x : List Item). js ++ x) none ∙ append-nil js,
              one (sym same),
            )
            | inr (i, rest, ws, whole, c, k) ↦ absurd (item_or_refused f.kind c e q)
          ]
        ]
      where
        one : ts ≡ tt → t ≡ u
        one same =
            let w = one_division (subst (λ (x : List Lexed). Divided bytes x us vs) same d) e in
            one_refusal (ItemText f.kind) (item_tokens f.kind (tokens_from bytes 0 uu)) uu
            (subst (λ (x : List Lexed). IsRefused bytes (ItemText f.kind) (item_tokens f.kind (tokens_from bytes 0 x)) x t) w.0 r) q

    same_title_fault : {ts us vs tt uu ww : List Lexed} {t u : TextFault} → TokensOf bytes ts → Divided bytes ts us vs → IsRefused bytes (TitleText f.kind) (tokens_from bytes 0 us) us t
        → TokensOf bytes tt → Divided bytes tt uu ww → IsRefused bytes (TitleText f.kind) (tokens_from bytes 0 uu) uu u → t ≡ u
    same_title_fault {us = us} {vs = vs} {uu = uu} {t = t} all d r every e q =
        let w = one_division (subst (λ (x : List Lexed). Divided bytes x us vs) (tokens_unique all every) d) e in
        one_refusal (TitleText f.kind) (tokens_from bytes 0 uu) uu
        (subst (λ (x : List Lexed). IsRefused bytes (TitleText f.kind) (tokens_from bytes 0 x) x t) w.0 r) q

    title_apart : {ts us vs tt uu ww : List Lexed} {t : TextFault} {x : List ℕ} → TokensOf bytes ts → Divided bytes ts us vs → IsRefused bytes (TitleText f.kind) (tokens_from bytes 0 us) us t
        → TokensOf bytes tt → Divided bytes tt uu ww → Accepted (TitleText f.kind) (tokens_from bytes 0 uu) x → ⊥
    title_apart {us = us} {vs = vs} {uu = uu} {t = t} {x = x} all d r every e h =
        let w = one_division (subst (λ (z : List Lexed). Divided bytes z us vs) (tokens_unique all every) d) e in
        text_or_refused (TitleText f.kind) (tokens_from bytes 0 uu) uu x h
        (subst (λ (z : List Lexed). IsRefused bytes (TitleText f.kind) (tokens_from bytes 0 z) z t) w.0 r)

    pub faulty_one : {is js : List Item} {t u : TextFault} → IsFaulty bytes f is t → IsFaulty bytes f js u → (is ≡ js) × (t ≡ u)
    faulty_one (no_tokens a) (no_tokens b) = (refl, ap (λ e. syntax (place_of e)) (fault_unique a b))
    faulty_one (no_tokens a) (no_title all d r) = absurd (fault_excludes a all)
    faulty_one (no_tokens a) (other_title all d h t not) = absurd (fault_excludes a all)
    faulty_one (no_tokens a) (no_item b some d r) = absurd (fault_excludes a b.titled.all)
    faulty_one (no_title all d r) (no_tokens b) = absurd (fault_excludes b all)
    faulty_one (no_title all d r) (no_title every e q) = (refl, same_title_fault all d r every e q)
    faulty_one (no_title all d r) (other_title every e h t not) = absurd (title_apart all d r every e h)
    faulty_one (no_title all d r) (no_item b some e q) = absurd (title_or_refused b.titled all d r)
    faulty_one (other_title all d h t not) (no_tokens b) = absurd (fault_excludes b all)
    faulty_one (other_title all d h t not) (no_title every e q) = absurd (title_apart every e q all d h)
    faulty_one (other_title all d h t not) (other_title every e g s nor) = (refl, refl)
    faulty_one (other_title all d h t not) (no_item b some e q) = absurd (title_or_other b.titled all d h t not)
    faulty_one (no_item a some d r) (no_tokens b) = absurd (fault_excludes b a.titled.all)
    faulty_one (no_item a some d r) (no_title all e q) = absurd (title_or_refused a.titled all e q)
    faulty_one (no_item a some d r) (other_title all e h t not) = absurd (title_or_other a.titled all e h t not)
    faulty_one (no_item a some d r) (no_item b any e q) = same_item_fault a d r b e q
