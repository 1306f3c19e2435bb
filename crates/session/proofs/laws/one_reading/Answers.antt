use Rattle.session.proofs.FrameLaws.{one_frame, frames_have_no_fault, one_leaving}
use Rattle.session.proofs.SessionLaws.{FramesAreOne, no_fault, one_fault, one_session}
use Rattle.session.proofs.laws.one_reading.Goals as goal

frames : FramesAreOne
frames = record {
  one_frame = λ lines rest first second are are'. one_frame lines rest first second are are';
  frames_stay = λ lines rest frame line kind are leaves. frames_have_no_fault lines rest frame line kind are leaves;
  one_leaving = λ lines rest line other kind kind' leaves leaves'. one_leaving lines rest line other kind kind' leaves leaves';
}

pub returns-clause-sessions_have_no_fault : goal.returns-clause-sessions_have_no_fault
returns-clause-sessions_have_no_fault c = no_fault c.one_order.ensures c.one_outcome.ensures frames

pub returns-clause-one_fault : goal.returns-clause-one_fault
returns-clause-one_fault c = one_fault c.one_order.ensures c.one_outcome.ensures frames

pub returns-clause-one_session : goal.returns-clause-one_session
returns-clause-one_session c = one_session c.one_order.ensures c.one_outcome.ensures frames
