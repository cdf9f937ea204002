-- Names that no step of a ratifier has, and orders in which no kinds come.
use Rattle.std.proofs.Common.{inl, inr, refl}
use Rattle.std.proofs.lemmas.Bool.{true≢false}
use Rattle.bus_adoptcommit.specs.Refused.{RefusesNames, RefusesOrders}

pub refuses_names : RefusesNames
refuses_names = record {
  added = λ at x begun h. let e = (h.reading (inl refl)).1 in absurd cc;
  exchanged = λ at x y begun h. let e = (h.reading (inr refl)).1 in absurd cc;
  stored = λ at x begun h. let e = (h.reading (inr refl)).1 in absurd cc;
  loaded = λ at begun h. let e = (h.storing (inr refl)).2 in absurd cc;
  proposed_late = λ o h. true≢false (h.proposes refl);
  read_first = λ o h. let e = h.first refl in absurd cc;
}

pub refuses_orders : RefusesOrders
refuses_orders = record {
  stored_unread = λ h. let e = h.writes_second refl in absurd cc;
  read_at_once = λ h. h.reads_second refl refl;
  stored_twice = λ h. let e = h.writes_second refl in absurd cc;
  stored_late = λ h. let e = h.writes_second refl in absurd cc;
  looked_back = λ h. elim (h.reads_first refl) [ inl e ↦ absurd cc | inr e ↦ absurd cc ];
  looked_late = λ h. elim (h.reads_first refl) [ inl e ↦ absurd cc | inr e ↦ absurd cc ];
}
