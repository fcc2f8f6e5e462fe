use Rattle.std.proofs.Common.{map, subst, inl, refl, Option, Box}
use Rattle.std.specs.Global.{Global}
use Rattle.ab_expressions.specs.declared.machine.Next.{Next}
use Rattle.ab_expressions.specs.declared.tree.TypeParse.{TypeParse}
use Rattle.ab_expressions.specs.SyntaxTrees.{binder_of}
use Rattle.ab_expressions.specs.Reader.{seen}
use Rattle.ab_expressions.specs.ReaderSteps.{type_state, type_frames_of, IsTypeNext}
use Rattle.ab_expressions.proofs.BinderTypes.{never_closed}
use Rattle.ab_expressions.proofs.binder_tokens.step_binder_type.Goals as goal

pub returns-in-Wrong : goal.returns-in-Wrong
returns-in-Wrong c = λ fs.
    let s = type_state (type_frames_of c.args.types) c.args.state in
    let h = subst (λ (r : Next (Option (Box TypeParse Global)) TypeParse). IsTypeNext s (seen c.args.token) (type_frames_of c.step_type.new.frames) r) c.in-Wrong.is c.in_ok-state.ensures in
    (never_closed fs c.args.prefix.quant c.args.prefix.place (map binder_of c.args.prefix.binders.items) c.args.name c.args.place s (seen c.args.token) h.0 h.1, inl refl)
