-- The codes of a stream's faults (RFC 9113, sections 3.4, 5.4.1 and 7).
-- contract: h2_wire::Cutter::cut
use Rattle.std.specs.Prelude.{Bool, true, false}
use Rattle.h2_frame.specs.declared.code.Code.{Code}
use Rattle.h2_frame.specs.declared.code.Code.TheVariants.{ProtocolError, InternalError}
use Rattle.h2_frame.specs.Heads.{head_fault_code}
use Rattle.h2_wire.specs.declared.fault.WireFault.{WireFault}
use Rattle.h2_wire.specs.declared.fault.WireFault.TheVariants.{BadPreface, HeadFault, PayloadFault}
use Rattle.h2_wire.specs.declared.fault.WireFault.TheVariants.{Memory}

-- the code with which the connection ends
-- rule: 3.4 The first octet that differs from the preface is PROTOCOL_ERROR, there
-- rule: 5.4 (own) Out of memory is INTERNAL_ERROR
abbrev pub wire_fault_code : WireFault → Code
wire_fault_code BadPreface = ProtocolError
wire_fault_code (HeadFault fault) = head_fault_code fault
wire_fault_code (PayloadFault code) = code
wire_fault_code Memory = InternalError

-- whether the fault is a wrong octet of the preface
-- rule: 3.4 (own) A cutter says whether the preface is complete or none is expected
abbrev pub is_bad_preface : WireFault → Bool
is_bad_preface BadPreface = true
is_bad_preface (HeadFault fault) = false
is_bad_preface (PayloadFault code) = false
is_bad_preface Memory = false
