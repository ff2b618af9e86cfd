mod Chains
mod Saying
mod Forwarding
mod Changing
