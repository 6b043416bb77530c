mod Pending
