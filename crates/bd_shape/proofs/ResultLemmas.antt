-- What holds of a value, if there is one, by what else holds of it.
use Rattle.std.proofs.Common.{Result, Ok, Err, IfOk, OnOk}

pub if_ok : {T : Type 0} {E : Type 0} (P Q : T → Type 0) (r : Result T E) → ((t : T) → P t → Q t) → IfOk r P → IfOk r Q
if_ok P Q (Ok t) h p = h t p
if_ok P Q (Err e) h p = tt

pub on_ok : {T : Type 0} {E : Type 0} (P Q : Type 0) (r : Result T E) → (P → Q) → OnOk r P → OnOk r Q
on_ok P Q (Ok t) h p = h p
on_ok P Q (Err e) h p = tt
