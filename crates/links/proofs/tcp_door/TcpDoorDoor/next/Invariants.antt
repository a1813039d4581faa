use Rattle.std.proofs.Common.{◌≡◌}
use Rattle.links.proofs.tcp_door.TcpDoorDoor.next.Given as goal

abbrev pub invariant-loop : goal.invariant-loop
invariant-loop l = record {
  faults : l.self.faults ≡ l.fn.self.faults;
}
