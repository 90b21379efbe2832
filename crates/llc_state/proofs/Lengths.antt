-- The arrays of a state are as long as its type says.
use denote.Laws.{Is}
use denote.Struct.Declared.{row}
use denote.Struct.Laws as S
use Rattle.llc_state.specs.declared.State.{State}
use Rattle.llc_state.specs.contracts.State.{the_type}
use Rattle.llc_state.specs.Lengths.{Lengths}
use Rattle.llc_state.proofs.State.TheLaws.{the_laws}

pub lengths : (s : State) → Is (row the_type) s (S.vals the_type the_laws s) → Lengths s
lengths s p =
    let q = p.1.1.1.1.1.1.1 in
    record {
      messages = q.1.1.1.0.1.0.1;
      udata = q.1.1.1.1.0.1.0.1;
      acks = q.1.1.1.1.1.0.1.0.1;
      places = q.1.1.1.1.1.1.0.1.0.1;
      rows = q.1.1.1.1.1.1.1.0.1.0.1;
    }
