use Rattle.std.proofs.Common.{refl, sym}
use Rattle.cargo_toml_manifest.proofs.Answering.{listing_refused, made, parts_refused}
use Rattle.cargo_toml_manifest.proofs.complete.completion.Goals as goal

pub returns-in-Err : goal.returns-in-Err
returns-in-Err g c = λ w path gives.
    parts_refused _ _ _ _ w c.in-Err.fault _ (rw c.in-Err.is at gives) (rw (sym path) at c.wrapped.ensures)

pub returns-in-Ok-find : goal.returns-in-Ok-find
returns-in-Ok-find g c = λ w path gives.
    made _ _ _ _ w c.in-Ok.parts (rw c.in-Ok.is at gives) _ refl c.in-Ok-find.ensures.answered

pub returns-in-Err-find : goal.returns-in-Err-find
returns-in-Err-find g c = λ w path gives.
    listing_refused _ _ _ _ w c.in-Ok.parts (rw c.in-Ok.is at gives) c.in-Err-find.fault _ c.in-Err-find.ensures.faults c.in-Err-find.ensures.refused
    (rw (sym path) at c.wrapped-in-Err-find.ensures)
