-- What these proofs use of std and of the logic.
pub use Rattle.std.proofs.Common.{◌≡◌, ℕ, ◌↔◌, ◌<◌, refl, sym, ap, ◌∙◌, subst, lit<, w64, List, [], ◌∷◌, ◌++◌, Option, Some, None, IsSome, length, option_map, slice_get, ◌-◌, arith, IfSome, Bool}
pub use mir.Syntax.{a_type, named, dcons, dnil}
pub use mir.Val.{Val, vptr, vstruct, vcons, vnil, of_list, vint}
pub use mir.MapTy.{inst_fn}
pub use base.Logic.{SProp, emp, id⊢, ent, sep, ex}
pub use base.Fml.{ftrue, flft, fsep, GName}
pub use types.Kit.{‵, raw, ◌⊛◌, some, later, at_ret, ◌$◌, ◌∵◌, !, qed, by, move, keep, drop, split, join, fjoin, pick, await, use0, use1, use2, rewrite, split3, fsplit3, done, feq_i, feq_l, fjoin3}
pub use types.Match.{live, vrt, in_variant}
pub use types.Part.{whole, agg, sub}
pub use types.Run.{enter, of_opd, lit, addr, stop, fld, no_more, and_then, first, switches_on, exec, returns}
pub use types.ByLocal.{alloc_all, pass_all, free_all, look_at, get, get_in, get_tag, through, sets, sets_last, lands_as, env}
pub use contract.Monad.{fact, fact_i}
pub use contract.BorrowLft.{◌⊑◌}
pub use contract.Running.{tables}
pub use denote.Exit.{yes, no}
pub use denote.RattleType.{RattleType}
pub use denote.Laws.{Is, shows}
pub use denote.Signature.{type_at, plain}
pub use denote.Builtin.{RefMutOf, usize, RefOf}
pub use denote.Ref.{Bor, MutBor, mut_vals, mut_Tells, MutRef, shr_vals, shr_Tells}
pub use denote.Plain.{uint_vals, uint_Tells, uint_Makes}
pub use denote.Param.{param, layouts, bounded}
pub use denote.Steps.{nothing, only, peeks, heard, owned}
pub use denote.Struct.Tuple.{Tuple}
pub use denote.Triple.Call.{calls_at}
pub use denote.Triple.Clauses.{Lasts, lasts, at_exit}
pub use denote.Triple.Entry.{on_entry, alive, Vals}
pub use denote.Triple.Spec.{triple_of}
pub use denote.Triple.Table.{framed}
pub use denote.Triple.Walked.{Stays, stay_dropped, walk_of, Goes-dropped}
pub use Rattle.std.proofs.raw_atomic.Walks.{proved, leaves}
pub use Rattle.std.proofs.VecSteps.Shapes.{after, head, arm_body}
pub use Rattle.std.specs.Option.{option_copied_mut, option_and_then, option_map_or}
pub use seplogic.Ra.Ura.{Ura}
pub use types.Logic.{Logic, sem}
pub use types.Tokens.{name_done}
pub use contract.Lifetimes.{Lfts, Shares}
pub use prog.Wp.{WpFn}
