use Rattle.std.proofs.Common.{◌≡◌, ◌++◌, length, map, take}
use Rattle.std.specs.Vec.Iter.{into_iter_items, into_iter_len}
use Rattle.bay_connection.specs.ConnectionStates.{octets_to_send, terms_of}
use Rattle.bay_device.specs.Receiving.{sent_on}
use Rattle.bay_device.proofs.message.send_all.Given as goal

abbrev pub invariant-loop-pdu : goal.invariant-loop-pdu
invariant-loop-pdu l = record {
  goes : l.initial.sent.items
      ++ map (λ pdu. sent_on l.association (octets_to_send (terms_of l.connection.state) pdu))
      (into_iter_items l.initial.pdu-iterator)
      ≡ l.sent.items ++ map (λ pdu. sent_on l.association
      (octets_to_send (terms_of l.connection.state) pdu)) (into_iter_items l.pdu-iterator);
  kept : take (length l.initial.sent.items) l.sent.items ≡ l.initial.sent.items;
  counted : into_iter_len l.pdu-iterator ≡ length (into_iter_items l.pdu-iterator);
}
