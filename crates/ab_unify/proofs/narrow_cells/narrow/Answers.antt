use Rattle.std.proofs.Common.{◌≡◌, ◌∷◌, [], ◌++◌, map, sym, ◌∙◌, ap, subst}
use Rattle.std.specs.Prelude.{All, codes}
use Rattle.std.proofs.lemmas.List.{length-map}
use Rattle.ab_norm.specs.ab_store.specs.Trees.{head_reading}
use Rattle.ab_patterns.specs.ab_unifiers.specs.Replacements as solve
use Rattle.ab_norm.specs.ab_store.specs.Reading.{cell_variable}
use Rattle.ab_unify.specs.StoreChanges.{others_than, IsFree, Changed}
use Rattle.ab_unify.proofs.Narrowed.{IsNarrowed, narrowed_free, narrowed_changed}
use Rattle.ab_unify.proofs.narrow_cells.narrow.Goals as goal

pub returns-in_err-made-clause-others : goal.returns-in_err-made-clause-others
returns-in_err-made-clause-others g c = λ d other fr. ((c.in_err-made.ensures.cells d fr.0).0, c.in_err-made.ensures.free d other fr.1)

pub returns-clause-free : goal.returns-clause-free
returns-clause-free g c =
    let types = c.args.types.now in
    let store = c.args.store.now in
    let more = c.renew.new.types in
    let now = c.renew.new.store in
    let made = c.in_ok-made.made in
    let e = c.in_ok-made.ensures in
    let hs = map (head_reading types store) c.args.names.now in
    let n : IsNarrowed types store c.args.cell hs c.args.keep.now more now made = record {
      grows = record { table = e.kept; kinds = e.kinds; constants = e.constants; typed = e.typed; trees = e.trees; cells = e.cells; marks = e.marks };
      number = e.number;
      one = e.one;
      unbound = e.unbound;
      hint = e.hint;
      ty = e.ty;
      bound = e.bound;
      free = e.free;
      reads = e.reads;
    } in
    let items : c.push.new.self.items ≡ others_than c.args.cell c.args.flexible.now.items ++ made ∷ [] =
    c.in_ok-push.ensures.items ∙ ap (λ l. l ++ made ∷ []) c.remove.ensures in
    subst (All (IsFree now)) (sym items) (narrowed_free types more store now c.requires.store c.args.cell made hs c.args.keep.now n c.args.flexible.now.items c.requires.free)

pub returns-clause-changed : goal.returns-clause-changed
returns-clause-changed g c = λ T S F change was.
    let types = c.args.types.now in
    let store = c.args.store.now in
    let more = c.renew.new.types in
    let now = c.renew.new.store in
    let made = c.in_ok-made.made in
    let e = c.in_ok-made.ensures in
    let hs = map (head_reading types store) c.args.names.now in
    let n : IsNarrowed types store c.args.cell hs c.args.keep.now more now made = record {
      grows = record { table = e.kept; kinds = e.kinds; constants = e.constants; typed = e.typed; trees = e.trees; cells = e.cells; marks = e.marks };
      number = e.number;
      one = e.one;
      unbound = e.unbound;
      hint = e.hint;
      ty = e.ty;
      bound = e.bound;
      free = e.free;
      reads = e.reads;
    } in
    let items : c.push.new.self.items ≡ others_than c.args.cell c.args.flexible.now.items ++ made ∷ [] =
    c.in_ok-push.ensures.items ∙ ap (λ l. l ++ made ∷ []) c.remove.ensures in
    subst (λ l. Changed T S F (solve.narrowed (codes "x") (cell_variable types store c.args.cell) hs c.args.keep.now change) more now l) (sym items)
    (narrowed_changed types more store now c.requires.store c.args.cell made hs c.args.keep.now n T S F c.args.flexible.now.items change was c.requires.listed
    c.requires.fits.0 c.requires.fits.1 c.requires.fits.2 (c.requires.flags ∙ sym (length-map c.args.names.now (head_reading types store))))
