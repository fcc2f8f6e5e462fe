-- A term taken out of a store, with what its names need: all heads in order, each with the number of binders around it, at
-- each binder where the heads of its body stand among them and which of them it binds, and at each argument the name of
-- which it is the eta-long form, where it is one.
use Rattle.std.specs.Prelude.{◌≡◌, ◌≤◌, ◌<◌, ◌+◌, ◌-◌, ◌^◌, ◌++◌, ℕ, List, [], length, map, nat_lt, if◌then◌else◌, Option, Some, None, option_map, slice_index_or, slice_range, All, IfSome}
use Rattle.std.specs.List.{filter_map}
use Rattle.std.specs.declared.alloc.Global.{Global}
use Rattle.std.specs.declared.vec.Vec.{Vec}
use Rattle.ab_term.specs.Terms as tree
use Rattle.ab_term.specs.Terms.{constant, logical, nominal, variable, index, lam, spine, Terms, no_terms, term, Read}
use Rattle.ab_store.specs.ab_types.specs.Entries.{Table}
use Rattle.ab_store.specs.ab_types.specs.Ids.{type_of}
use Rattle.ab_store.specs.declared.node.Head.{Head}
use Rattle.ab_store.specs.Trees.{Contents, head_reading}
use Rattle.ab_store.specs.Naming.{HoldsHead, HeadIsTyped}
use Rattle.ab_print.specs.PrintedNames.{free_heads}
use Rattle.ab_print.specs.NameAssignment.{alone}
use Rattle.ab_print.specs.declared.drawings.Seen.{Seen}
use Rattle.ab_print.specs.declared.drawings.Part.{Part}
use Rattle.ab_print.specs.declared.drawings.Drawing.{Drawing, Lam', Spine'}
use Rattle.ab_print.specs.declared.drawings.Drawings.{Drawings, End, More'}
use Rattle.ab_print.specs.Places.{places_of, has, is_bound_at, IsInOrder}

-- a head, where it is seen from outside so many binders; the names that these bind aren't seen there
abbrev pub outside : ℕ → tree.Head ℕ → Option (tree.Head ℕ)
outside n (constant c) = Some (constant c)
outside n (logical l) = Some (logical l)
outside n (nominal a) = Some (nominal a)
outside n (variable x) = Some (variable x)
outside n (index i) = if nat_lt i n then None else Some (index (i - n))

-- the places of the name that the binder under so many others binds, as far as they are known
abbrev pub bound_so_far : List (Vec ℕ Global) → ℕ → List ℕ
bound_so_far known k = slice_index_or (map (λ v. v.items) known) k []

module _ (seen : List Seen) where
  -- a binder's part under so many binders, within another part
  pub record IsPart (depth start end : ℕ) (part : Part) : Type 0 where
    pub after : start ≤ part.start
    pub order : part.start ≤ part.end
    pub before : part.end ≤ end
    pub there : part.end ≤ length seen
    pub short : part.end + 1 < 2 ^ 64 - 1
    pub under : (k : ℕ) (s : Seen) → part.start ≤ k → k < part.end → depth + 1 ≤ (slice_index_or seen k s).binders
    pub bound : (k : ℕ) (s : Seen) → part.start ≤ k → k < part.end → has part.bound.items k ≡ is_bound_at depth (slice_index_or seen k s)
    pub sorted : IsInOrder part.bound.items

module _ (types : Table) (store : Contents) where
  -- a constant and a cell that the head is are there
  abbrev pub IsHeld : Head → Type 0
  IsHeld h = HoldsHead store h × HeadIsTyped types h

  abbrev pub AreHeld : List Seen → Type 0
  AreHeld seen = All (λ s. IsHeld s.head) seen

  -- a head that is seen, and heads, from where so many binders stand around
  abbrev pub from : ℕ → Seen → Option (tree.Head ℕ)
  from depth s = outside (s.binders - depth) (head_reading types store s.head)

  abbrev pub all_from : ℕ → List Seen → List (tree.Head ℕ)
  all_from depth seen = filter_map (from depth) seen

  -- the term that a drawing stands for
  abbrev mutual
    pub term_of : Drawing → Read
    term_of (Lam' a x part p d) = lam (type_of types a) x (term_of d)
    term_of (Spine' h p ds) = spine (head_reading types store h) (terms_of ds)

    pub terms_of : Drawings → Terms ℕ (List ℕ)
    terms_of End = no_terms
    terms_of (More' p d name q ds) = term (term_of d) (terms_of ds)

  -- These heads, in order, stand under so many binders, and were put behind the others; and the places of each name that
  -- one of these binders binds, behind its other places.
  pub record Puts (depth : ℕ) (old new : List Seen) (known later : List (Vec ℕ Global)) (heads : List (tree.Head ℕ)) : Type 0 where
    pub more : List Seen
    pub behind : new ≡ old ++ more
    pub under : All (λ s. depth ≤ s.binders) more
    pub held : AreHeld more
    pub same : all_from depth more ≡ heads
    pub around : length later ≡ depth
    pub bound : (k : ℕ) → k < depth → bound_so_far later k ≡ bound_so_far known k ++ places_of (is_bound_at k) (length old) more

  module _ (seen : List Seen) where
    -- WHAT IT HOLDS BESIDE is right, within a part under so many binders, and all that it names is there
    abbrev mutual
      pub IsSound : ℕ → ℕ → ℕ → Drawing → Type 0
      IsSound depth start end (Lam' a x part p d) = IsPart seen depth start end part × (all_from depth (slice_range seen part.start part.end) ≡ free_heads (lam (type_of types a) x (term_of d))) × IsSound (depth + 1) part.start part.end d
      IsSound depth start end (Spine' h p ds) = IsHeld h × AreSound depth start end ds

      pub AreSound : ℕ → ℕ → ℕ → Drawings → Type 0
      AreSound depth start end End = Unit {0}
      AreSound depth start end (More' p d name q ds) = (option_map (head_reading types store) name ≡ alone 0 (term_of d)) × IfSome name IsHeld × IsSound depth start end d × AreSound depth start end ds
