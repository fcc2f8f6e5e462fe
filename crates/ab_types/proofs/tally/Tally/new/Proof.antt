-- `new` takes a place for the number, at which 0 stands.
use Rattle.std.proofs.Common.{[], ◌∷◌, refl}
use mir.Val.{vstruct, vnil}
use base.Logic.{emp, via, fst∗}
use base.Stored.{gnum}
use types.Kit.{‵, raw, ◌$◌, ◌∵◌, !, qed, move, fjoin, suffices, done}
use types.Run.{no_more, returns, enter}
use types.Part.{agg}
use types.ByLocal.{alloc_all, pass_all, free_all, look_at, sets}
use types.Tokens.{name_new}
use denote.RattleType.{RattleType, owns}
use denote.Shadow.{pure_i}
use denote.Struct.Struct.{Struct}
use denote.Triple.Entry.{alive}
use denote.Triple.Walked.{says, Stays, walk_of, ends_at}
use Rattle.std.proofs.raw_atomic.Walks.{proved}
use Rattle.ab_types.specs.contracts.tally.Tally as made
use Rattle.ab_types.specs.contracts.tally.Tally.new as f
use Rattle.ab_types.proofs.tally.Tally.new.Statement.{statement}
use Rattle.ab_types.proofs.tally.Tally.new.Code as code

abbrev stayed : Stays f.ended.signature.params f.ended.kept
stayed = tt

abbrev Fields : RattleType
Fields = Struct (record { name = made.the_type.name; args = []; types = []; fields = [] })

pub new_spec : {M : Type 1} → statement M
new_spec 𝓤 𝓛 𝓜 𝓡 wired =
    let c = f.clauses 𝓛 𝓜.mem 𝓡.returns in let W = walk_of 𝓛 f.ended stayed c in
    proved 𝓛 f.ended stayed c 𝓜 𝓡 tt f.Key.name code.function (code.unfolded 𝓤 𝓛.H 𝓜 𝓡 wired) (λ κs. tt) (λ κs. tt) (λ κs qs bounds a g are.
    let y : W.Ghost = ((κs, qs, bounds, a, tt), g) in
    via 𝓤 _ (fst∗ 𝓤 _ (emp 𝓤)) (
    qed 𝓛 (raw (alive 𝓛 f.signature κs qs) ∷ ‵ (owns [] tt tt) ∷ []) ∵ enter ! _ _ _ _ _ $
    alloc_all ! (λ l. pass_all ! refl tt $ sets ! (agg ! (no_more !)) refl (tt, tt) $
    name_new ! tt (gnum 0) (λ γ. fjoin ! $
    returns ! (look_at ! 0 refl) $ free_all ! refl $
    suffices ! _ (ends_at 𝓛 f.ended stayed c y (vstruct vnil) (record { name = γ; count = 0 }) tt tt) $ says ! refl $
    pure_i ! (Fields.own_val tt (vstruct vnil ∷ [])) (λ vss. (tt, tt)) (tt, (refl, tt)) $
    fjoin ! $ move ! (1 ∷ 2 ∷ 0 ∷ []) $ done !))))
