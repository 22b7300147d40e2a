use Rattle.std.proofs.Common.{sym, refl, arith}
use Rattle.cdl_scopes.proofs.Kept.{few_as, gathered_as, library_as, outwards_as}
use Rattle.cdl_scopes.proofs.table.DeclaredClasses.of.Goals as goal

pub invariant_of-result : goal.invariant_of-result
invariant_of-result c = record {
  gathered = gathered_as c.items.result.now c.args.files c.in_ok-classes.classes c.items.ensures c.in_ok-classes.ensures;
  outwards = outwards_as c.items-4.result.now c.args.files c.in_ok-classes.classes c.in_ok-outwards.outwards.items c.in_ok-outwards.outwards.items (sym c.items-4.ensures) refl c.in_ok-outwards.ensures;
  library = library_as c.items-3.result.now c.args.files c.in_ok-classes.classes c.in_ok-library.library.items c.in_ok-library.library.items (sym c.items-3.ensures) refl c.in_ok-library.ensures;
  few = few_as c.items-2.result.now c.args.files (sym c.items-2.ensures) (omega (arith, c.in-Some.ensures.number, c.in-Some.ensures.few));
}
